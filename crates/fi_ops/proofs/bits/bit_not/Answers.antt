use Rattle.std.proofs.Common.{ℕ, ◌≡◌, ◌∙◌, ap, arith, ◌-◌, ◌^◌}
use Rattle.num_type.specs.View.{type_of}
use Rattle.fi_ops.specs.View.{element_of}
use Rattle.fi_ops.specs.Bits.{bits_of, with_bits, complemented}
use Rattle.fi_ops.proofs.bits.bit_not.Goals as goal

pub returns-clause-value : goal.returns-clause-value
unfolding complemented
returns-clause-value c =
    let w : 2 ^ c.word.result ≡ 2 ^ c.args.a.num.word = ap (λ (n : ℕ). 2 ^ n) c.word.ensures.value in
    let e : c.ones.result - c.bits.result ≡ 2 ^ c.args.a.num.word - 1 - bits_of (element_of c.args.a) = omega (arith, w, c.ones.ensures, c.bits.ensures.value) in
    c.pattern.ensures.value ∙ ap (with_bits (type_of c.args.a.num)) e
