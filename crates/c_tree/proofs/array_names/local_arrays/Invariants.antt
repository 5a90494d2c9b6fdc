use Rattle.std.proofs.Common.{◌≡◌, ◌++◌, drop}
use Rattle.c_tree.specs.Names.{locals_from}
use Rattle.c_tree.proofs.array_names.local_arrays.Given as goal

abbrev pub invariant-loop-k : goal.invariant-loop-k
invariant-loop-k l = (l.found ++ locals_from l.k-counter (drop l.k-counter l.arrays) ≡ locals_from 0 l.arrays)
