-- Products of whole numbers.
use Rattle.std.proofs.Common.{◌≡◌, ℕ, zero, suc, ◌+◌, ◌*◌, ◌<◌, true, refl, sym, ap, ◌∙◌, arith}
use Rattle.std.specs.Prelude.{ℤ, pos, negsuc, ◌+ℤ◌, ◌*ℤ◌, neg_ℤ}
use Rattle.std.proofs.lemmas.Int.{ints}
use Rattle.std.proofs.Math.IntN.{*ℤ_comm}
use Rattle.std.proofs.Math.Nat.{mul_assoc, mul_comm, suc-mul, eq_of_mul-eq-mul_right}
use borrow.Author.Differences.{sum_is_lem, up, down}
use Rattle.num_type.proofs.Constants.{signed-mul}

-- a sum times a natural
pub distrib : (a b : ℤ) (p : ℕ) → (a +ℤ b) *ℤ pos p ≡ a *ℤ pos p +ℤ b *ℤ pos p
distrib a b p =
    let e : (up (a +ℤ b) + down a + down b) * p ≡ (down (a +ℤ b) + up a + up b) * p = ap (λ (n : ℕ). n * p) (sum_is_lem a b) in
    omega (arith, ints)

-- a product with two naturals
pub times_times : (z : ℤ) (p q : ℕ) → (z *ℤ pos p) *ℤ pos q ≡ z *ℤ pos (p * q)
times_times (pos n) p q = ap pos (mul_assoc n p q)
times_times (negsuc n) p q = signed-mul true (suc n * p) q ∙ ap (λ (m : ℕ). neg_ℤ (pos m)) (mul_assoc (suc n) p q)

pub times_turned : (z : ℤ) (p q : ℕ) → (z *ℤ pos p) *ℤ pos q ≡ (z *ℤ pos q) *ℤ pos p
times_turned z p q = times_times z p q ∙ ap (λ (m : ℕ). z *ℤ pos m) (mul_comm p q) ∙ sym (times_times z q p)

pos_neg : (a n : ℕ) → pos a *ℤ neg_ℤ (pos n) ≡ neg_ℤ (pos (a * n))
pos_neg a zero = let e : a * 0 ≡ 0 = omega arith in omega (arith, ints, e)
pos_neg a (suc n) = refl

neg_neg : (a n : ℕ) → negsuc a *ℤ neg_ℤ (pos n) ≡ pos (suc a * n)
neg_neg a zero = let e : suc a * 0 ≡ 0 = omega arith in omega (arith, ints, e)
neg_neg a (suc n) = refl

-- a natural moves into a product
pub times_inner : (x y : ℤ) (p : ℕ) → (x *ℤ y) *ℤ pos p ≡ x *ℤ (y *ℤ pos p)
times_inner (pos a) (pos b) p = ap pos (mul_assoc a b p)
times_inner (pos a) (negsuc b) p =
    signed-mul true (a * suc b) p ∙ ap (λ (m : ℕ). neg_ℤ (pos m)) (mul_assoc a (suc b) p) ∙ sym (pos_neg a (suc b * p))
times_inner (negsuc a) (pos b) p = signed-mul true (suc a * b) p ∙ ap (λ (m : ℕ). neg_ℤ (pos m)) (mul_assoc (suc a) b p)
times_inner (negsuc a) (negsuc b) p = ap pos (mul_assoc (suc a) (suc b) p) ∙ sym (neg_neg a (suc b * p))

-- two of them
pub times_both : (x y : ℤ) (p q : ℕ) → (x *ℤ y) *ℤ pos (p * q) ≡ (x *ℤ pos p) *ℤ (y *ℤ pos q)
times_both x y p q =
    sym (times_times (x *ℤ y) p q)
    ∙ ap (λ (z : ℤ). z *ℤ pos q) (
    ap (λ (z : ℤ). z *ℤ pos p) (*ℤ_comm x y) ∙ times_inner y x p ∙ *ℤ_comm y (x *ℤ pos p)
    )
    ∙ times_inner (x *ℤ pos p) y q

above_zero : (n p : ℕ) → 0 < p → 0 < suc n * p
above_zero n p some = omega (arith, some, suc-mul n p)

-- a natural that isn't 0 cancels
pub times_cancel : (z w : ℤ) (p : ℕ) → 0 < p → z *ℤ pos p ≡ w *ℤ pos p → z ≡ w
times_cancel (pos a) (pos b) p some h = ap pos (eq_of_mul-eq-mul_right p some a b (omega (arith, ints, h)))
times_cancel (pos a) (negsuc b) p some h = absurd (omega (arith, ints, h, above_zero b p some))
times_cancel (negsuc a) (pos b) p some h = absurd (omega (arith, ints, h, above_zero a p some))
times_cancel (negsuc a) (negsuc b) p some h =
    let e : suc a ≡ suc b = eq_of_mul-eq-mul_right p some (suc a) (suc b) (omega (arith, ints, h)) in
    ap negsuc (omega (arith, e))
