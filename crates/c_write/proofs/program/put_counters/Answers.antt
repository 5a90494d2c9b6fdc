use Rattle.std.proofs.Common.{◌≡◌, ◌++◌, ◌-◌, ◌+◌, suc, ap, sym, ◌∙◌, append_assoc, decimal, arith}
use Rattle.c_tree.specs.declared.tree.CWord.TheVariants.{I64}
use Rattle.c_tree.specs.Texts.{letter_of}
use Rattle.c_tree.specs.Layout.{counters_text, start_line}
use Rattle.c_write.proofs.program.put_counters.Goals as goal

pub loop-number-preserved : goal.loop-number-preserved
loop-number-preserved c =
    let letter = letter_of c.args.kind in
    let k = c.loop-number.number in
    let n = c.args.count in
    let left : n - k ≡ suc (n - (k + 1)) = omega arith in
    let more = counters_text letter (k + 1) (n - (k + 1)) in
    ap (λ l. l ++ more) (c.in_ok-put_counter_line.ensures ∙ ap (λ l. c.loop-number.out.items ++ start_line I64 (l ++ decimal k)) c.letter_of.ensures)
    ∙ append_assoc c.loop-number.out.items (start_line I64 (letter ++ decimal k)) more
    ∙ ap (λ m. c.loop-number.out.items ++ counters_text letter k m) (sym left)
    ∙ c.loop-number.invariant
