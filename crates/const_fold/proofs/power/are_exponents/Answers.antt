use Rattle.std.proofs.Common.{ℕ, refl, sym, ap, subst, ◌∙◌, arith}
use Rattle.std.specs.Prelude.{ℤ}
use Rattle.num_type.proofs.Constants.{not_true}
use Rattle.shape_rules.specs.Shapes.{elements_of}
use Rattle.const_eval.specs.Complex.{Complex}
use Rattle.const_eval.specs.Powers.{IsExponent}
use Rattle.const_eval.specs.Values.{number_at}
use Rattle.const_eval.proofs.Listed.{each_more}
use Rattle.const_fold.proofs.power.are_exponents.Goals as goal

pub returns-then-not-is_exponent : goal.returns-then-not-is_exponent
returns-then-not-is_exponent c =
    (λ t. absurd (not_true t), λ all. sym c.if-not-is_exponent.true ∙ c.is_exponent.ensures.1 (subst (λ (z : Complex). (n : ℤ) × IsExponent z.re n) (sym c.at.ensures) (all c.loop-k.k (omega (arith, c.loop-k-test.true, c.elements-count.ensures.value, ap elements_of c.shape.ensures)))))

pub loop-k-preserved : goal.loop-k-preserved
loop-k-preserved c =
    each_more (λ (j : ℕ). (n : ℤ) × IsExponent (number_at c.args.b.now j).re n) c.loop-k.k c.loop-k.invariant
    (subst (λ (z : Complex). (n : ℤ) × IsExponent z.re n) c.at.ensures (c.is_exponent.ensures.0 c.if-not-is_exponent.false))

pub returns : goal.returns
returns c = (λ t k l. c.loop-k.invariant k (omega (arith, l, c.loop-k-test.false, c.loop-k.auto.k-end, c.elements-count.ensures.value, ap elements_of c.shape.ensures)), λ all. refl)
