use Rattle.std.proofs.Common.{◌≡◌, ◌++◌, ◌-◌}
use Rattle.c_tree.specs.Texts.{letter_of}
use Rattle.c_tree.specs.Layout.{counters_text}
use Rattle.c_write.proofs.program.put_counters.Given as goal

abbrev pub invariant-loop-number : goal.invariant-loop-number
invariant-loop-number l =
    (l.out.items ++ counters_text (letter_of l.kind) l.number (l.count - l.number) ≡ l.initial.out.items ++ counters_text (letter_of l.kind) 0 l.count)
