-- The ranges of types.
use Rattle.std.proofs.Common.{◌≡◌, ℕ, zero, suc, ◌+◌, ◌-◌, ◌*◌, ◌^◌, ◌<◌, ◌≤◌, Bool, true, false, IsTrue, ℤ, pos, negsuc, ◌+ℤ◌, ◌≤ℤ◌, ◌<ℤ◌, refl, subst, arith, lit≤, add-one}
use Rattle.std.proofs.Math.Nat.{mul-le-mul_left}
use Rattle.std.proofs.lemmas.Nat.{pow-add}
use Rattle.std.proofs.lemmas.Int.{ints}
use Rattle.num_type.specs.Types.{IsInRange}

-- the bits of a stored integer, less the sign
abbrev pub bits_of : Bool → ℕ → ℕ
bits_of true w = w - 1
bits_of false w = w

-- in the range of a type, by cases
abbrev pub InRange : Bool → ℕ → ℤ → Type 0
InRange s w (pos n) = n < 2 ^ bits_of s w
InRange s w (negsuc n) = IsTrue s × (n < 2 ^ bits_of s w)

-- from -2^p to 2^p - 1
pub record Between (p : ℕ) (z : ℤ) : Type 0 where
  pub high : z <ℤ pos (2 ^ p)
  pub low : pos 0 ≤ℤ (z +ℤ pos (2 ^ p))

pub signed_between : (w : ℕ) (z : ℤ) → InRange true w z → Between (w - 1) z
signed_between w (pos n) h = record { high = omega (arith, ints); low = omega (arith, ints) }
signed_between w (negsuc n) h = let k = h.1 in record { high = omega (arith, ints); low = omega (arith, ints) }

pub between_signed : (w : ℕ) (z : ℤ) → Between (w - 1) z → InRange true w z
between_signed w (pos n) h = omega (arith, ints)
between_signed w (negsuc n) h = (refl, omega (arith, ints))

pub pow_step : (p : ℕ) → 2 ^ (p + 1) ≡ 2 ^ p * 2
pow_step p = pow-add 2 p 1

pub pow_pos : (p : ℕ) → 1 ≤ 2 ^ p
pow_pos zero = lit≤ tt
pow_pos (suc p) = let e : 2 ^ suc p ≡ 2 ^ p * 2 = subst (λ n. 2 ^ n ≡ 2 ^ p * 2) (add-one p) (pow_step p) in omega (arith, pow_pos p, e)

pow_more : (p k : ℕ) → 2 ^ p ≤ 2 ^ (p + k)
pow_more p k = let e = pow-add 2 p k in let one = pow_pos k in let m = mul-le-mul_left (2 ^ p) one in omega (arith, e, m)

pub pow_mono : (p q : ℕ) → p ≤ q → 2 ^ p ≤ 2 ^ q
pow_mono p q h = let e : p + (q - p) ≡ q = omega arith in subst (λ n. 2 ^ p ≤ 2 ^ n) e (pow_more p (q - p))

pub widen : (p q : ℕ) (z : ℤ) → p ≤ q → Between p z → Between q z
widen p q z h b = let m = pow_mono p q h in record { high = omega (arith, ints, b.high, m); low = omega (arith, ints, b.low, m) }

pub no_false : IsTrue false → ⊥
no_false h = cc

-- the two forms of being in a range
pub in_range_cases : (s : Bool) (w : ℕ) (f z : ℤ) → IsInRange (record { signed = s; word = w; fraction = f }) z → InRange s w z
in_range_cases true w f (pos n) h = let one = pow_pos (w - 1) in omega (arith, ints, h.least, h.most, one)
in_range_cases true w f (negsuc n) h = let one = pow_pos (w - 1) in (refl, omega (arith, ints, h.least, h.most, one))
in_range_cases false w f (pos n) h = let one = pow_pos w in omega (arith, ints, h.least, h.most, one)
in_range_cases false w f (negsuc n) h = absurd (omega (arith, ints, h.least, h.most))

pub cases_in_range : (s : Bool) (w : ℕ) (f z : ℤ) → InRange s w z → IsInRange (record { signed = s; word = w; fraction = f }) z
cases_in_range true w f (pos n) h = record { least = omega (arith, ints, h); most = omega (arith, ints, h) }
cases_in_range true w f (negsuc n) h = let k = h.1 in record { least = omega (arith, ints, k); most = omega (arith, ints, k) }
cases_in_range false w f (pos n) h = record { least = omega (arith, ints, h); most = omega (arith, ints, h) }
cases_in_range false w f (negsuc n) h = absurd (no_false h.0)
