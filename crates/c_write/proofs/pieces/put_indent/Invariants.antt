use Rattle.std.proofs.Common.{◌≡◌, ◌++◌}
use Rattle.c_tree.specs.Layout.{indent}
use Rattle.c_write.proofs.pieces.put_indent.Given as goal

abbrev pub invariant-loop : goal.invariant-loop
invariant-loop l = l.out.items ≡ l.initial.out.items ++ indent l.counter
