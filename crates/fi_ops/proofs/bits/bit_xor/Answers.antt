use Rattle.std.proofs.Common.{ℕ, ◌∙◌, ap}
use Rattle.std.specs.Prelude.{bit_xor}
use Rattle.num_type.specs.View.{type_of}
use Rattle.fi_ops.specs.View.{element_of}
use Rattle.fi_ops.specs.Bits.{bits_of, with_bits, xored}
use Rattle.fi_ops.proofs.bits.bit_xor.Goals as goal

pub returns-clause-value : goal.returns-clause-value
unfolding xored
returns-clause-value c =
    c.pattern.ensures.value ∙ ap (λ (u : ℕ). with_bits (type_of c.args.a.num) (bit_xor u c.bits-2.result)) c.bits.ensures.value
    ∙ ap (λ (u : ℕ). with_bits (type_of c.args.a.num) (bit_xor (bits_of (element_of c.args.a)) u)) c.bits-2.ensures.value
