use Rattle.std.proofs.Common.{ℕ, ◌∙◌, ap, ◌/◌, ◌^◌}
use Rattle.num_type.specs.View.{type_of}
use Rattle.fi_ops.specs.Bits.{with_bits, right_shifted}
use Rattle.fi_ops.proofs.bits.bit_srl.Goals as goal

pub returns-clause-value : goal.returns-clause-value
unfolding right_shifted
returns-clause-value c = c.pattern.ensures.value ∙ ap (λ (u : ℕ). with_bits (type_of c.args.a.num) (u / 2 ^ c.args.k)) c.bits.ensures.value
