use Rattle.std.proofs.Common.{◌≡◌, ◌++◌, map, drop}
use Rattle.c_tree.specs.Run.{zeros}
use Rattle.c_run.proofs.stores.zero_stores.Given as goal

abbrev pub invariant-loop-array : goal.invariant-loop-array
invariant-loop-array l = l.stores.items ++ map zeros (drop l.array-index l.arrays) ≡ map zeros l.arrays
