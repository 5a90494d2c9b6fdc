-- Operators on real constants.
use Rattle.std.proofs.Common.{◌≡◌, ℕ, suc, ◌%◌, Bool, true, false, refl, ap, ◌∙◌, arith}
use Rattle.std.specs.Prelude.{◌==◌, if◌then◌else◌, ℤ, pos, negsuc, neg_ℤ, nat_abs, Some, None}
use Rattle.std.proofs.lemmas.Int.{ints}
use Rattle.std.proofs.lemmas.Bool.{eqb-true, eqb-false}
use Rattle.num_type.specs.Constants.{Exact, IsSame, IsConstant, IsReduced, sum_of, opposite, difference, product_of}
use Rattle.num_type.specs.Precision.{whole}
use Rattle.num_type.proofs.Constants.{same_turned}
use Rattle.const_eval.specs.Powers.{power_of, IsPowerOf, turned}
use Rattle.const_eval.proofs.Alike.{sum_same, difference_same, product_same, opposite_same}
use Rattle.const_eval.proofs.Powers.{power_same}
use Rattle.const_rules.specs.Splits.{split_up_to}
use Rattle.const_rules.specs.OneForm.{reduced, constant_of, IsConstantWith}
use Rattle.const_rules.specs.Folds.{added, subtracted, multiplied, negated, power, inverse_power}
use Rattle.const_rules.proofs.Answers.{answer_as}
use Rattle.const_rules.proofs.OneForm.{reduced_same, reduced_is, reduced_once, constant_of_is, constant_of_once}
use Rattle.const_eval.proofs.Inverses.{unit_from_size, no_inverse}
use Rattle.const_rules.proofs.Inverses.{negative_power, power_is_turned, power_of_same}

-- Sums, differences and products

pub added_is : (x y : Exact) → IsConstantWith (λ n. IsSame n (sum_of x y)) (added x y)
added_is x y = constant_of_is (sum_of x y)

pub added_once : (x u y v : Exact) → IsSame x u → IsSame y v → added x y ≡ added u v
added_once x u y v h k = constant_of_once (sum_of x y) (sum_of u v) (sum_same x u y v h k)

pub subtracted_is : (x y : Exact) → IsConstantWith (λ n. IsSame n (difference x y)) (subtracted x y)
subtracted_is x y = constant_of_is (difference x y)

pub subtracted_once : (x u y v : Exact) → IsSame x u → IsSame y v → subtracted x y ≡ subtracted u v
subtracted_once x u y v h k = constant_of_once (difference x y) (difference u v) (difference_same x u y v h k)

pub multiplied_is : (x y : Exact) → IsConstantWith (λ n. IsSame n (product_of x y)) (multiplied x y)
multiplied_is x y = constant_of_is (product_of x y)

pub multiplied_once : (x u y v : Exact) → IsSame x u → IsSame y v → multiplied x y ≡ multiplied u v
multiplied_once x u y v h k = constant_of_once (product_of x y) (product_of u v) (product_same x u y v h k)

-- Signs

size_negated : (z : ℤ) → nat_abs (neg_ℤ z) ≡ nat_abs z
size_negated z = omega (arith, ints)

zero_negated : (z : ℤ) → neg_ℤ z ≡ pos 0 → z ≡ pos 0
zero_negated z e = omega (arith, ints, e)

pub negated_form : (x : Exact) → IsReduced x → IsReduced (negated x)
negated_form x h = record {
  zero_form = λ z. h.zero_form (zero_negated x.significand z);
  odd = λ some. ap (λ (n : ℕ). n % 2) (size_negated x.significand) ∙ h.odd (λ z. some (ap neg_ℤ z));
}

pub negated_constant : (x : Exact) → IsConstant x → IsConstant (negated x)
negated_constant x h = record {
  form = opposite h.form;
  bits = omega (arith, size_negated h.form.significand, h.bits);
  least = h.least;
  most = h.most;
  same = opposite_same h.form x h.same;
}

pub negated_same : (x y : Exact) → IsSame x y → IsSame (negated x) (negated y)
negated_same = opposite_same

-- Powers

inverse_is : (x : Exact) (n : ℕ) → IsReduced x → IsConstantWith (IsPowerOf x (negsuc n)) (inverse_power x (suc n))
inverse_is x n h = by (nat_abs x.significand == 1) refl
  where
    by : (b : Bool) → (nat_abs x.significand == 1) ≡ b → IsConstantWith (IsPowerOf x (negsuc n)) (if b then constant_of (power_of (turned x) (suc n)) else None)
    by true e =
        let u = unit_from_size x.significand (eqb-true (nat_abs x.significand) 1 e) in
        answer_as (λ d. IsSame d (power_of (turned x) (suc n))) (IsPowerOf x (negsuc n)) (constant_of (power_of (turned x) (suc n)))
        (λ d. negative_power x d n u) (λ d. power_is_turned x d n u) (constant_of_is (power_of (turned x) (suc n)))
    by false e = λ d c k. no_inverse x d n h (eqb-false (nat_abs x.significand) 1 e) k

pub power_is : (x : Exact) (e : ℤ) → IsConstantWith (IsPowerOf x e) (power x e)
unfolding power
power_is x (pos n) = constant_of_is (power_of x n)
power_is x (negsuc n) =
    let y : Exact = reduced x in
    answer_as (IsPowerOf y (negsuc n)) (IsPowerOf x (negsuc n)) (inverse_power y (suc n))
    (λ d. power_of_same y x d (negsuc n) (reduced_same x))
    (λ d. power_of_same x y d (negsuc n) (same_turned y x (reduced_same x)))
    (inverse_is y n (reduced_is x))

pub power_once : (x y : Exact) (e : ℤ) → IsSame x y → power x e ≡ power y e
unfolding power
power_once x y (pos n) h = constant_of_once (power_of x n) (power_of y n) (power_same x y n h)
power_once x y (negsuc n) h = ap (λ (z : Exact). inverse_power z (suc n)) (reduced_once x y h)

-- the power 0 is 1
pub power_zero : (x : Exact) → power x (pos 0) ≡ Some (whole (pos 1))
unfolding power constant_of reduced split_up_to
power_zero x = refl
