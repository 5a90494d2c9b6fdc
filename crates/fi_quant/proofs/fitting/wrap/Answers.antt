use Rattle.std.proofs.Common.{◌∙◌, ap, arith, ℕ}
use Rattle.std.specs.Prelude.{pos, neg_ℤ}
use Rattle.std.proofs.lemmas.Nat.{pow_pos}
use Rattle.fi_quant.proofs.Splits.{ones_of, half_is}
use Rattle.fi_quant.proofs.Fits.{wrap_then}
use Rattle.fi_quant.proofs.fitting.wrap.Goals as goal

pub overflow_sub-word-then-bits-word-2 : goal.overflow_sub-word-then-bits-word-2
overflow_sub-word-then-bits-word-2 c = omega (arith, ones_of c.args.word c.requires.wide)

pub returns-then-bits-word : goal.returns-then-bits-word
returns-then-bits-word c c' = wrap_then c.args.has_sign c.args.word c.low_bits-bits.result _ c.of.result c.if-has_sign.true (omega arith) c.low_bits-bits.ensures.below
    (omega (arith, half_is c.args.word (omega arith) c.requires.wide)) (c.low_bits-bits.ensures.same c')
    (c.of.ensures ∙ ap (λ (n : ℕ). neg_ℤ (pos n)) (omega (arith, ones_of c.args.word c.requires.wide, pow_pos c.args.word)))
