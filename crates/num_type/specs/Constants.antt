-- Exact numbers, and which of them are constants.
use Rattle.std.specs.Prelude.{◌≡◌, ◌<◌, ◌*◌, ◌^◌, ◌%◌, ◌≤ℤ◌, ◌+ℤ◌, ◌-ℤ◌, ◌*ℤ◌, neg_ℤ, ℕ, ℤ, pos, negsuc, nat_abs}
use Rattle.std.specs.Int.{int_min}
use Rattle.std.specs.Ordering.{int_cmp}
use Rattle.std.specs.declared.cmp.Ordering.{Ordering}

-- the number significand * 2 ^ exponent
pub record Exact : Type 0 where
  pub significand : ℤ
  pub exponent : ℤ

-- how many 2 ^ scale the number is, at a scale that isn't above its exponent
unfoldable pub units : ℤ → Exact → ℤ
units scale x = x.significand *ℤ pos (2 ^ nat_abs (x.exponent -ℤ scale))

-- the scale at which two numbers are whole
abbrev pub common : Exact → Exact → ℤ
common x y = int_min x.exponent y.exponent

-- they are the same number
abbrev pub IsSame : Exact → Exact → Type 0
IsSame x y = units (common x y) x ≡ units (common x y) y

-- the least and the greatest exponent of a constant, and the bits of its significand
abbrev pub exponent_least : ℤ
exponent_least = negsuc 399

abbrev pub exponent_most : ℤ
exponent_most = pos 400

abbrev pub significand_bits : ℕ
significand_bits = 53

-- a constant: some significand and exponent within the limits give it
pub record IsConstant (x : Exact) : Type 0 where
  pub form : Exact
  pub bits : nat_abs form.significand < 2 ^ significand_bits
  pub least : exponent_least ≤ℤ form.exponent
  pub most : form.exponent ≤ℤ exponent_most
  pub same : IsSame form x

-- the one form of a number: an odd significand, or both 0
pub record IsReduced (x : Exact) : Type 0 where
  pub zero_form : x.significand ≡ pos 0 → x.exponent ≡ pos 0
  pub odd : (x.significand ≡ pos 0 → ⊥) → nat_abs x.significand % 2 ≡ 1

-- what the limits leave of it, for an odd significand of this size: above the greatest exponent there are as many bits fewer
pub record IsKept (size : ℕ) (exponent : ℤ) : Type 0 where
  pub bits : size < 2 ^ significand_bits
  pub least : exponent_least ≤ℤ exponent
  pub room : (k : ℕ) → exponent ≡ exponent_most +ℤ pos k → size * 2 ^ k < 2 ^ significand_bits

-- the exact sum, difference and product
abbrev pub sum_of : Exact → Exact → Exact
sum_of x y = record { significand = units (common x y) x +ℤ units (common x y) y; exponent = common x y }

abbrev pub opposite : Exact → Exact
opposite x = record { significand = neg_ℤ x.significand; exponent = x.exponent }

abbrev pub difference : Exact → Exact → Exact
difference x y = sum_of x (opposite y)

abbrev pub product_of : Exact → Exact → Exact
product_of x y = record { significand = x.significand *ℤ y.significand; exponent = x.exponent +ℤ y.exponent }

-- the order of two numbers
unfoldable pub order_of : Exact → Exact → Ordering
order_of x y = int_cmp (units (common x y) x) (units (common x y) y)
