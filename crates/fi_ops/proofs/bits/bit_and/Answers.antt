use Rattle.std.proofs.Common.{ℕ, ◌∙◌, ap}
use Rattle.std.specs.Prelude.{bit_and}
use Rattle.num_type.specs.View.{type_of}
use Rattle.fi_ops.specs.View.{element_of}
use Rattle.fi_ops.specs.Bits.{bits_of, with_bits, anded}
use Rattle.fi_ops.proofs.bits.bit_and.Goals as goal

pub returns-clause-value : goal.returns-clause-value
unfolding anded
returns-clause-value c =
    c.pattern.ensures.value ∙ ap (λ (u : ℕ). with_bits (type_of c.args.a.num) (bit_and u c.bits-2.result)) c.bits.ensures.value
    ∙ ap (λ (u : ℕ). with_bits (type_of c.args.a.num) (bit_and (bits_of (element_of c.args.a)) u)) c.bits-2.ensures.value
