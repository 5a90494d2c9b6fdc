-- Orders of numbers at a common scale.
use Rattle.std.proofs.Common.{◌≡◌, ℕ, zero, suc, ◌*◌, ◌^◌, ◌<◌, ◌≤◌, sym, ap, ◌∙◌, arith, Less, Greater}
use Rattle.std.specs.Prelude.{ℤ, pos, negsuc, ◌+ℤ◌, ◌*ℤ◌, ◌≤ℤ◌, ◌<ℤ◌, neg_ℤ, nat_abs}
use Rattle.std.specs.Ordering.{int_cmp, ordering_reverse}
use Rattle.std.specs.Cmp.{int_cmp_is}
use Rattle.std.proofs.lemmas.Int.{ints, clamps}
use Rattle.std.proofs.lemmas.Cmp.{int_cmp_total}
use Rattle.std.proofs.lemmas.Nat.{mul-le}
use Rattle.std.proofs.Math.Pow.{pow_mono}
use Rattle.num_type.specs.Constants.{Exact, units, common, order_of}
use Rattle.num_type.proofs.Constants.{abs_times, times_one, units_at}

pub zero_times : (z : ℤ) (p : ℕ) → z ≡ pos 0 → z *ℤ pos p ≡ pos 0
zero_times z p e = ap (λ (y : ℤ). y *ℤ pos p) e ∙ ap pos (let k : 0 * p ≡ 0 = omega arith in k)

wide : (bits : ℕ) → 64 < bits → 2 ^ 64 ≤ 2 ^ bits
wide bits h = pow_mono (let l : 64 ≤ bits = omega (arith, h) in l)

above_all : (n bits : ℕ) (low : ℤ) → nat_abs low < 2 ^ 53 → 64 < bits → low <ℤ pos (suc n * 2 ^ bits)
above_all n bits low few many = omega (arith, ints, few, wide bits many, mul-le 1 (2 ^ bits) (suc n) (2 ^ bits) (omega arith) (omega arith))

pub far_above : (high low : ℤ) (bits : ℕ) → pos 0 <ℤ high → nat_abs low < 2 ^ 53 → 64 < bits → Greater ≡ int_cmp (high *ℤ pos (2 ^ bits)) low
far_above (pos zero) low bits h few many = absurd (omega (arith, ints, h))
far_above (pos (suc n)) low bits h few many = int_cmp_is (pos (suc n) *ℤ pos (2 ^ bits)) low Greater (above_all n bits low few many)
far_above (negsuc n) low bits h few many = absurd (omega (arith, ints, h))

pub far_below : (high low : ℤ) (bits : ℕ) → high <ℤ pos 0 → nat_abs low < 2 ^ 53 → 64 < bits → Less ≡ int_cmp (high *ℤ pos (2 ^ bits)) low
far_below (pos n) low bits h few many = absurd (omega (arith, ints, h))
far_below (negsuc n) low bits h few many =
    let size : 2 ^ 64 ≤ suc n * 2 ^ bits = omega (arith, wide bits many, mul-le 1 (2 ^ bits) (suc n) (2 ^ bits) (omega arith) (omega arith)) in
    int_cmp_is (negsuc n *ℤ pos (2 ^ bits)) low Less (omega (arith, ints, few, size, abs_times (negsuc n) (2 ^ bits), below_zero n (2 ^ bits)))
  where
    below_zero : (n p : ℕ) → (negsuc n *ℤ pos p) ≤ℤ pos 0
    below_zero n p = let e : (neg_ℤ (pos (suc n * p))) ≤ℤ pos 0 = omega (arith, ints) in e

pub far_none : (high low : ℤ) (bits : ℕ) → high ≡ pos 0 → int_cmp (pos 0) low ≡ int_cmp (high *ℤ pos (2 ^ bits)) low
far_none high low bits e = ap (λ (z : ℤ). int_cmp z low) (sym (zero_times high (2 ^ bits) e))

-- two numbers at the exponent of the second one
pub units_above : (x y : Exact) (n : ℕ) → x.exponent ≡ y.exponent +ℤ pos n → units (common x y) x ≡ x.significand *ℤ pos (2 ^ n)
units_above x y n e = units_at (common x y) x n (omega (arith, ints, clamps, e))

pub units_of_lower : (x y : Exact) (n : ℕ) → x.exponent ≡ y.exponent +ℤ pos n → units (common x y) y ≡ y.significand
units_of_lower x y n e = units_at (common x y) y 0 (omega (arith, ints, clamps, e)) ∙ times_one y.significand

-- and at the exponent of the first one
pub units_below : (x y : Exact) (n : ℕ) → y.exponent ≡ x.exponent +ℤ pos n → units (common x y) x ≡ x.significand
units_below x y n e = units_at (common x y) x 0 (omega (arith, ints, clamps, e)) ∙ times_one x.significand

pub units_of_upper : (x y : Exact) (n : ℕ) → y.exponent ≡ x.exponent +ℤ pos n → units (common x y) y ≡ y.significand *ℤ pos (2 ^ n)
units_of_upper x y n e = units_at (common x y) y n (omega (arith, ints, clamps, e))

pub order_above : (x y : Exact) (n : ℕ) → x.exponent ≡ y.exponent +ℤ pos n → int_cmp (x.significand *ℤ pos (2 ^ n)) y.significand ≡ order_of x y
unfolding order_of
order_above x y n e = λ i. int_cmp (sym (units_above x y n e) i) (sym (units_of_lower x y n e) i)

pub order_below : (x y : Exact) (n : ℕ) → y.exponent ≡ x.exponent +ℤ pos n → ordering_reverse (int_cmp (y.significand *ℤ pos (2 ^ n)) x.significand) ≡ order_of x y
unfolding order_of
order_below x y n e =
    sym (int_cmp_total.antisymm x.significand (y.significand *ℤ pos (2 ^ n)))
    ∙ (λ i. int_cmp (sym (units_below x y n e) i) (sym (units_of_upper x y n e) i))
