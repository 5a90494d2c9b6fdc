use Rattle.std.proofs.Common.{ℕ, ◌∙◌, ap}
use Rattle.std.specs.Prelude.{bit_or}
use Rattle.num_type.specs.View.{type_of}
use Rattle.fi_ops.specs.View.{element_of}
use Rattle.fi_ops.specs.Bits.{bits_of, with_bits, ored}
use Rattle.fi_ops.proofs.bits.bit_or.Goals as goal

pub returns-clause-value : goal.returns-clause-value
unfolding ored
returns-clause-value c =
    c.pattern.ensures.value ∙ ap (λ (u : ℕ). with_bits (type_of c.args.a.num) (bit_or u c.bits-2.result)) c.bits.ensures.value
    ∙ ap (λ (u : ℕ). with_bits (type_of c.args.a.num) (bit_or (bits_of (element_of c.args.a)) u)) c.bits-2.ensures.value
