-- Whole powers of exact numbers.
use Rattle.std.specs.Prelude.{◌≡◌, ◌≤ℤ◌, ℕ, zero, suc, ℤ, pos, negsuc, neg_ℤ}
use Rattle.num_type.specs.Constants.{Exact, IsSame, product_of}
use Rattle.num_type.specs.Precision.{whole}
use Rattle.num_type.specs.View.{exact_of}
use Rattle.num_type.specs.declared.dyadic.Dyadic.{Dyadic}

-- a product of n times x, which is 1 where n is 0
abbrev pub power_of : Exact → ℕ → Exact
power_of x zero = whole (pos 1)
power_of x (suc n) = product_of (power_of x n) x

-- r is x to a whole power: to one below 0 the number whose product with the power above 0 is 1
abbrev pub IsPowerOf : Exact → ℤ → Exact → Type 0
IsPowerOf x (pos n) r = IsSame r (power_of x n)
IsPowerOf x (negsuc n) r = IsSame (product_of r (power_of x (suc n))) (whole (pos 1))

-- no constant is
abbrev pub NoPowerOf : Exact → ℤ → Type 0
NoPowerOf x exponent = (d : Dyadic) → IsPowerOf x exponent (exact_of d) → ⊥

-- 1 or -1
pub data IsUnit (z : ℤ) : Type 0 where
  One : z ≡ pos 1 → IsUnit z
  MinusOne : z ≡ negsuc 0 → IsUnit z

-- the number with the opposite exponent, which is the inverse of a power of 2 with a sign
abbrev pub turned : Exact → Exact
turned x = record { significand = x.significand; exponent = neg_ℤ x.exponent }

-- the number is this whole one, from -400 to 400
pub record IsExponent (x : Exact) (n : ℤ) : Type 0 where
  pub least : negsuc 399 ≤ℤ n
  pub most : n ≤ℤ pos 400
  pub same : IsSame x (whole n)
