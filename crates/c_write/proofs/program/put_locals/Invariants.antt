use Rattle.std.proofs.Common.{◌≡◌, ◌++◌, drop}
use Rattle.std.specs.Prelude.{flat_map}
use Rattle.c_tree.specs.Layout.{local_text}
use Rattle.c_write.proofs.program.put_locals.Given as goal

abbrev pub invariant-loop-a : goal.invariant-loop-a
invariant-loop-a l = (l.out.items ++ flat_map local_text (drop l.a-index l.arrays) ≡ l.initial.out.items ++ flat_map local_text l.arrays)
