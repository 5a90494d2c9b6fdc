-- Numbers without an imaginary part.
use Rattle.std.proofs.Common.{◌≡◌, ℕ, zero, suc, ◌*◌, ◌^◌, refl, sym, ap, ◌∙◌, arith}
use Rattle.std.specs.Prelude.{Option, Some, None, is_some, Bool, true, false, ◌||◌, ℤ, pos, negsuc, ◌+ℤ◌, ◌-ℤ◌, ◌*ℤ◌, neg_ℤ, nat_abs}
use Rattle.std.specs.Global.{Vec}
use Rattle.num_type.specs.Constants.{Exact, units, common, sum_of, product_of}
use Rattle.num_type.specs.declared.dyadic.Dyadic.{Dyadic}
use Rattle.num_type.proofs.Constants.{not_true}
use Rattle.const_eval.specs.declared.constant.Const.{Const}
use Rattle.const_eval.specs.Complex.{Complex, times}
use Rattle.const_eval.specs.Values.{imaginary_at, is_complex}
use Rattle.const_fold.specs.MatrixProducts.{entry, sum_to}

zero_times : (z : ℤ) (p : ℕ) → z ≡ pos 0 → z *ℤ pos p ≡ pos 0
zero_times z p e = ap (λ (y : ℤ). y *ℤ pos p) e ∙ ap pos (let k : 0 * p ≡ 0 = omega arith in k)

times_zero : (z : ℤ) → z *ℤ pos 0 ≡ pos 0
times_zero (pos n) = ap pos (let k : n * 0 ≡ 0 = omega arith in k)
times_zero (negsuc n) = ap (λ (k : ℕ). neg_ℤ (pos k)) (let e : suc n * 0 ≡ 0 = omega arith in e)

zero_times_all : (z : ℤ) → pos 0 *ℤ z ≡ pos 0
zero_times_all (pos n) = ap pos (let k : 0 * n ≡ 0 = omega arith in k)
zero_times_all (negsuc n) = ap (λ (k : ℕ). neg_ℤ (pos k)) (let e : 0 * suc n ≡ 0 = omega arith in e)

sum_zero : (p q : Exact) → p.significand ≡ pos 0 → q.significand ≡ pos 0 → (sum_of p q).significand ≡ pos 0
unfolding units
sum_zero p q e f = λ i. zero_times p.significand (2 ^ nat_abs (p.exponent -ℤ common p q)) e i +ℤ zero_times q.significand (2 ^ nat_abs (q.exponent -ℤ common p q)) f i

no_part : (parts : Option (Vec Dyadic)) (k : ℕ) → is_some parts ≡ false → (imaginary_at parts k).significand ≡ pos 0
no_part None k e = refl
no_part (Some v) k e = absurd (not_true (sym e))

times_real : (x y : Complex) → x.im.significand ≡ pos 0 → y.im.significand ≡ pos 0 → (times x y).im.significand ≡ pos 0
times_real x y e f =
    sum_zero (product_of x.re y.im) (product_of x.im y.re)
    (ap (λ (z : ℤ). x.re.significand *ℤ z) f ∙ times_zero x.re.significand)
    (ap (λ (z : ℤ). z *ℤ y.re.significand) e ∙ zero_times_all y.re.significand)

-- the sums of products of real constants are real
pub sum_real : (a b : Const) (row column n : ℕ) → is_complex a ≡ false → is_complex b ≡ false → (sum_to a b row column n).im.significand ≡ pos 0
sum_real a b row column zero e f = refl
sum_real a b row column (suc n) e f =
    sum_zero (sum_to a b row column n).im (times (entry a row n) (entry b n column)).im (sum_real a b row column n e f)
    (times_real (entry a row n) (entry b n column) (no_part a.im _ e) (no_part b.im _ f))

pub both_false : (a b : Bool) → (a || b) ≡ false → (a ≡ false) × (b ≡ false)
both_false false b e = (refl, e)
both_false true b e = absurd (not_true (sym e))
