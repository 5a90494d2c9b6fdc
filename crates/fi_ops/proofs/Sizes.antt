-- Sizes of stored integers, of their products and of aligned ones.
use Rattle.std.proofs.Common.{ℕ, suc, ◌+◌, ◌-◌, ◌*◌, ◌^◌, ◌<◌, ◌≤◌, ◌≡◌, refl, ap, ◌∙◌, Bool, true, false, arith}
use Rattle.std.specs.Prelude.{ℤ, pos, negsuc, ◌*ℤ◌, nat_abs}
use Rattle.std.proofs.lemmas.Int.{ints}
use Rattle.std.proofs.Math.Pow.{pow_mono}
use Rattle.std.proofs.lemmas.Nat.{pow_pos, pow-add, mul-le}
use Rattle.num_type.specs.Types.{NumericType, IsInRange}
use Rattle.fi_quant.proofs.Signs.{neg-mul, size-signed}

pow_up : (i j : ℕ) → i ≤ j → 2 ^ i ≤ 2 ^ j
pow_up i j h = pow_mono h

-- the size of a stored integer
sized : (s : Bool) (w : ℕ) (f : ℤ) (z : ℤ) → IsInRange (record { signed = s; word = w; fraction = f }) z → nat_abs z ≤ 2 ^ w
sized true w f z h = let p = pow_up (w - 1) w (omega arith) in omega (arith, ints, h.least, h.most, pow_pos (w - 1))
sized false w f z h = omega (arith, ints, h.least, h.most, pow_pos w)

pub size_most : (t : NumericType) (z : ℤ) → IsInRange t z → nat_abs z ≤ 2 ^ t.word
size_most t z h = sized t.signed t.word t.fraction z h

-- the size of a product with a natural
pub scale_size : (z : ℤ) (p : ℕ) → nat_abs (z *ℤ pos p) ≡ nat_abs z * p
scale_size (pos n) p = refl
scale_size (negsuc n) p = ap nat_abs (neg-mul (suc n) p) ∙ size-signed true (suc n * p)

-- a product of sizes, by their bits
pub product_most : (x y i j : ℕ) → x ≤ 2 ^ i → y ≤ 2 ^ j → x * y ≤ 2 ^ (i + j)
product_most x y i j h k =
    let m : x * y ≤ 2 ^ i * 2 ^ j = mul-le x y (2 ^ i) (2 ^ j) h k in
    omega (arith, pow-add 2 i j)

-- a product of stored integers is one of 128 bits
pub product_fits : (a b : NumericType) (x y : ℤ) → IsInRange a x → IsInRange b y → a.word + b.word ≤ 64 → nat_abs x * nat_abs y < 2 ^ 128
product_fits a b x y h k l =
    let m = product_most (nat_abs x) (nat_abs y) a.word b.word (size_most a x h) (size_most b y k) in
    let p : 2 ^ (a.word + b.word) ≤ 2 ^ 64 = pow_up (a.word + b.word) 64 l in
    omega arith

-- so is an aligned one
pub aligned_fits : (t : NumericType) (z : ℤ) (n : ℕ) → IsInRange t z → t.word + n < 128 → nat_abs z * 2 ^ n < 2 ^ 128
aligned_fits t z n h l =
    let m = product_most (nat_abs z) (2 ^ n) t.word n (size_most t z h) (omega arith) in
    let p : 2 ^ (t.word + n) ≤ 2 ^ 127 = pow_up (t.word + n) 127 (omega arith) in
    omega arith

pub aligned_most : (t : NumericType) (z : ℤ) (n : ℕ) → IsInRange t z → nat_abs (z *ℤ pos (2 ^ n)) ≤ 2 ^ (t.word + n)
aligned_most t z n h = rw (scale_size z (2 ^ n)) (product_most (nat_abs z) (2 ^ n) t.word n (size_most t z h) (omega arith))

-- two aligned ones have a sum
pub both_fit : (x y i j : ℕ) → x ≤ 2 ^ i → y ≤ 2 ^ j → i < 64 → j < 64 → x + y < 2 ^ 128
both_fit x y i j h k a b =
    let p : 2 ^ i ≤ 2 ^ 64 = pow_up i 64 (omega arith) in
    let q : 2 ^ j ≤ 2 ^ 64 = pow_up j 64 (omega arith) in
    omega arith
