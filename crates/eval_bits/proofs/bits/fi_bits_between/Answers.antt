use Rattle.std.proofs.Common.{Some, ap, sym, ◌∙◌}
use Rattle.fi_rules.specs.Value.{Val}
use Rattle.eval_bits.proofs.Fis.{bits_sliced, no_bits_sliced, has_all}
use Rattle.eval_bits.proofs.bits.fi_bits_between.Goals as goal

pub returns-in_ok-r : goal.returns-in_ok-r
returns-in_ok-r c =
    ap (λ (w : Val). Some w) c.in_ok-r.ensures
    ∙ sym (bits_sliced c.args.v.now c.args.left c.args.right (ap (has_all c.args.left c.args.right) (sym c.word.ensures.value) ∙ sym c.has_bits.ensures.value ∙ c.if-has_bits.true))

pub returns-else-has_bits : goal.returns-else-has_bits
returns-else-has_bits c =
    sym (no_bits_sliced c.args.v.now c.args.left c.args.right (ap (has_all c.args.left c.args.right) (sym c.word.ensures.value) ∙ sym c.has_bits.ensures.value ∙ c.if-has_bits.false))
