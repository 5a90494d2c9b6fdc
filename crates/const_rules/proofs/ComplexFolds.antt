-- Operators on complex constants, by their parts.
use Rattle.std.proofs.Common.{refl}
use Rattle.std.specs.Prelude.{Option, Some, None}
use Rattle.num_type.specs.Constants.{Exact, IsSame, IsConstant, IsReduced, sum_of, difference, product_of}
use Rattle.num_type.proofs.Constants.{constant_same, same_through, same_turned}
use Rattle.const_eval.specs.Complex.{Complex, AreConstant, HasConstantSteps, plus, minus, times}
use Rattle.const_eval.proofs.Alike.{sum_same, difference_same}
use Rattle.const_rules.specs.OneForm.{IsConstantWith}
use Rattle.const_rules.specs.Folds.{added, subtracted, multiplied}
use Rattle.const_rules.specs.ComplexFolds.{of_both, paired, complex_added, complex_subtracted, complex_multiplied, complex_negated, AreReduced, IsComplexAnswer}
use Rattle.const_rules.proofs.Folds.{added_is, subtracted_is, multiplied_is, negated_form, negated_constant}

-- a part: its number, within its limits, or none where it isn't
abbrev IsPart : Exact → Type 0 → Option Exact → Type 0
IsPart z Limits (Some n) = IsReduced n × IsSame n z × Limits
IsPart z Limits None = Limits → ⊥

part_of : (z : Exact) (r : Option Exact) → IsConstantWith (λ n. IsSame n z) r → IsPart z (IsConstant z) r
part_of z (Some n) h = (h.0, h.2, constant_same n z h.2 h.1)
part_of z None h = λ c. h z c refl

paired_is : (z : Complex) (P Q L : Type 0) (r s : Option Exact) → (P → Q → L) → (L → P × Q) → IsPart z.re P r → IsPart z.im Q s → IsComplexAnswer z L (paired r s)
paired_is z P Q L (Some x) (Some y) to from h k = (record { re = h.0; im = k.0 }, record { re = h.1; im = k.1 }, to h.2 k.2)
paired_is z P Q L (Some x) None to from h k = λ l. k (from l).1
paired_is z P Q L None s to from h k = λ l. h (from l).0

-- Sums and differences

pub complex_added_is : (x y : Complex) → IsComplexAnswer (plus x y) (AreConstant (plus x y)) (complex_added x y)
complex_added_is x y =
    paired_is (plus x y) (IsConstant (sum_of x.re y.re)) (IsConstant (sum_of x.im y.im)) (AreConstant (plus x y)) (added x.re y.re) (added x.im y.im)
    (λ p q. record { re = p; im = q }) (λ l. (l.re, l.im))
    (part_of (sum_of x.re y.re) (added x.re y.re) (added_is x.re y.re)) (part_of (sum_of x.im y.im) (added x.im y.im) (added_is x.im y.im))

pub complex_subtracted_is : (x y : Complex) → IsComplexAnswer (minus x y) (AreConstant (minus x y)) (complex_subtracted x y)
complex_subtracted_is x y =
    paired_is (minus x y) (IsConstant (difference x.re y.re)) (IsConstant (difference x.im y.im)) (AreConstant (minus x y)) (subtracted x.re y.re) (subtracted x.im y.im)
    (λ p q. record { re = p; im = q }) (λ l. (l.re, l.im))
    (part_of (difference x.re y.re) (subtracted x.re y.re) (subtracted_is x.re y.re)) (part_of (difference x.im y.im) (subtracted x.im y.im) (subtracted_is x.im y.im))

-- Products

-- an operator on the constants of two numbers, where both are constants
both_is : (f : Exact → Exact → Option Exact) (g : Exact → Exact → Exact) (u v : Exact) (r s : Option Exact) → ((x y : Exact) → IsConstantWith (λ n. IsSame n (g x y)) (f x y)) → ((x a y b : Exact) → IsSame x a → IsSame y b → IsSame (g x y) (g a b)) → IsPart u (IsConstant u) r → IsPart v (IsConstant v) s → IsPart (g u v) (IsConstant u × IsConstant v × IsConstant (g u v)) (of_both f r s)
both_is f g u v (Some x) (Some y) is same h k = by (f x y) (is x y)
  where
    alike : IsSame (g x y) (g u v)
    alike = same x u y v h.1 k.1

    by : (r : Option Exact) → IsConstantWith (λ n. IsSame n (g x y)) r → IsPart (g u v) (IsConstant u × IsConstant v × IsConstant (g u v)) r
    by (Some n) p =
        let q : IsSame n (g u v) = same_through n (g x y) (g u v) p.2 (same x u y v h.1 k.1) in
        (p.0, q, (h.2, k.2, constant_same n (g u v) q p.1))
    by None p = λ l. p (g u v) l.2 (same_turned (g x y) (g u v) (same x u y v h.1 k.1))
both_is f g u v (Some x) None is same h k = λ l. k l.1
both_is f g u v None s is same h k = λ l. h l.0

pub complex_multiplied_is : (x y : Complex) → IsComplexAnswer (times x y) (HasConstantSteps x y) (complex_multiplied x y)
complex_multiplied_is x y =
    let a : Exact = product_of x.re y.re in
    let b : Exact = product_of x.im y.im in
    let c : Exact = product_of x.re y.im in
    let d : Exact = product_of x.im y.re in
    paired_is (times x y) (IsConstant a × IsConstant b × IsConstant (difference a b)) (IsConstant c × IsConstant d × IsConstant (sum_of c d)) (HasConstantSteps x y)
    (of_both subtracted (multiplied x.re y.re) (multiplied x.im y.im)) (of_both added (multiplied x.re y.im) (multiplied x.im y.re))
    (λ p q. record { re_re = p.0; im_im = p.1; re_im = q.0; im_re = q.1; parts = record { re = p.2; im = q.2 } })
    (λ l. ((l.re_re, l.im_im, l.parts.re), (l.re_im, l.im_re, l.parts.im)))
    (both_is subtracted difference a b (multiplied x.re y.re) (multiplied x.im y.im) subtracted_is difference_same (part_of a (multiplied x.re y.re) (multiplied_is x.re y.re)) (part_of b (multiplied x.im y.im) (multiplied_is x.im y.im)))
    (both_is added sum_of c d (multiplied x.re y.im) (multiplied x.im y.re) added_is sum_same (part_of c (multiplied x.re y.im) (multiplied_is x.re y.im)) (part_of d (multiplied x.im y.re) (multiplied_is x.im y.re)))

-- Signs

pub complex_negated_form : (x : Complex) → AreReduced x → AreReduced (complex_negated x)
complex_negated_form x h = record { re = negated_form x.re h.re; im = negated_form x.im h.im }

pub complex_negated_constant : (x : Complex) → AreConstant x → AreConstant (complex_negated x)
complex_negated_constant x h = record { re = negated_constant x.re h.re; im = negated_constant x.im h.im }
