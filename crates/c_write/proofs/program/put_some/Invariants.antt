use Rattle.std.proofs.Common.{◌≡◌, ◌++◌, drop}
use Rattle.c_tree.specs.Layout.{parameters_text}
use Rattle.c_write.proofs.program.put_some.Given as goal

abbrev pub invariant-loop-a : goal.invariant-loop-a
invariant-loop-a l = (l.out.items ++ parameters_text l.first l.word (drop l.a-index l.arrays) ≡ l.initial.out.items ++ parameters_text l.initial.first l.word l.arrays)
