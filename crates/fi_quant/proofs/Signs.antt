-- Products and sums of whole numbers given by sign and size.
use Rattle.std.proofs.Common.{ℕ, zero, suc, ◌+◌, ◌*◌, ◌-◌, ◌≡◌, refl, ap, ◌∙◌, ◌<◌, ◌≤◌, Bool, true, false, not, arith}
use mathlib.Core.Bool.{beq}
use Rattle.std.specs.Prelude.{ℤ, pos, negsuc, ◌+ℤ◌, ◌*ℤ◌, neg_ℤ, nat_abs}
use Rattle.std.proofs.lemmas.Int.{ints}
use borrow.Author.Differences.{sum_is_lem, up, down}
use Rattle.num_type.specs.Whole.{signed, is_below_zero}

-- a sum times a natural
pub distrib : (a b : ℤ) (p : ℕ) → (a +ℤ b) *ℤ pos p ≡ a *ℤ pos p +ℤ b *ℤ pos p
distrib a b p =
    let e : (up (a +ℤ b) + down a + down b) * p ≡ (down (a +ℤ b) + up a + up b) * p = ap (λ (n : ℕ). n * p) (sum_is_lem a b) in
    omega (arith, ints)

-- a size times a natural keeps its sign
pub signed-mul : (s : Bool) (n p : ℕ) → signed s n *ℤ pos p ≡ signed s (n * p)
signed-mul false n p = refl
signed-mul true zero p = omega (arith, ints)
signed-mul true (suc n) p = refl

-- the same for one below 0, in the form that goals have
pub neg-mul : (n p : ℕ) → neg_ℤ (pos n) *ℤ pos p ≡ neg_ℤ (pos (n * p))
neg-mul n p = signed-mul true n p

pub twice-signed : (s : Bool) (n : ℕ) → pos 2 *ℤ signed s n ≡ signed s (2 * n)
twice-signed false n = refl
twice-signed true n = omega (arith, ints)

-- a number is its size with its sign
pub signed-parts : (z : ℤ) → signed (is_below_zero z) (nat_abs z) ≡ z
signed-parts (pos n) = refl
signed-parts (negsuc n) = refl

pub size-signed : (s : Bool) (n : ℕ) → nat_abs (signed s n) ≡ n
size-signed false n = refl
size-signed true zero = refl
size-signed true (suc n) = refl

-- a number, from its sign and its size
pub part_is : (z : ℤ) (neg : Bool) (m : ℕ) → neg ≡ is_below_zero z → m ≡ nat_abs z → signed neg m ≡ z
part_is z neg m e f = let k : signed neg m ≡ signed (is_below_zero z) (nat_abs z) = cc in k ∙ signed-parts z

-- sums, by sign and size
pub sum_same : (na nb : Bool) (x y : ℕ) → beq na nb ≡ true → signed na (x + y) ≡ signed na x +ℤ signed nb y
sum_same false false x y h = refl
sum_same true true x y h = omega (arith, ints)
sum_same false true x y h = cc
sum_same true false x y h = cc

pub sum_left : (na nb : Bool) (x y : ℕ) → beq na nb ≡ false → y ≤ x → signed na (x - y) ≡ signed na x +ℤ signed nb y
sum_left false false x y h l = cc
sum_left true true x y h l = cc
sum_left false true x y h l = omega (arith, ints)
sum_left true false x y h l = omega (arith, ints)

pub sum_right : (na nb : Bool) (x y : ℕ) → beq na nb ≡ false → x < y → signed (not na) (y - x) ≡ signed na x +ℤ signed nb y
sum_right false false x y h l = cc
sum_right true true x y h l = cc
sum_right false true x y h l = omega (arith, ints)
sum_right true false x y h l = omega (arith, ints)

twice_neg : (a b : ℕ) → b ≡ 2 * a → neg_ℤ (pos b) ≡ pos 2 *ℤ neg_ℤ (pos a)
twice_neg a b e = omega (arith, ints)

-- twice a number, times a natural
pub twice-mul : (q : ℤ) (p : ℕ) → (pos 2 *ℤ q) *ℤ pos p ≡ pos 2 *ℤ (q *ℤ pos p)
twice-mul (pos n) p = omega (arith, ints)
twice-mul (negsuc n) p = neg-mul (2 * suc n) p ∙ twice_neg (suc n * p) (2 * suc n * p) (omega arith)
