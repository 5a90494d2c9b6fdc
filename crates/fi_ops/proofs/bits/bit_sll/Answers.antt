use Rattle.std.proofs.Common.{ℕ, ◌∙◌, ap, ◌*◌, ◌^◌}
use Rattle.num_type.specs.View.{type_of}
use Rattle.fi_ops.specs.Bits.{with_bits, left_shifted}
use Rattle.fi_ops.proofs.Stored.{shift_stays}
use Rattle.fi_ops.proofs.bits.bit_sll.Goals as goal

pub returns-clause-value : goal.returns-clause-value
unfolding left_shifted
returns-clause-value c =
    c.pattern.ensures.value ∙ ap (with_bits (type_of c.args.a.num)) (shift_stays c.bits.result c.args.a.num.word c.args.k c.bits.ensures.below c.args.a.num.bits c.requires)
    ∙ ap (λ (u : ℕ). with_bits (type_of c.args.a.num) (u * 2 ^ c.args.k)) c.bits.ensures.value
