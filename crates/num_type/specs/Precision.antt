-- Best precision: the greatest fraction length at which a type of a signedness and a word length holds values.
use Rattle.std.specs.Prelude.{◌≡◌, ◌+◌, ◌*◌, ◌-◌, ◌^◌, ◌<◌, ◌≤◌, ◌≤ℤ◌, ◌<ℤ◌, ◌+ℤ◌, ◌↔◌, ℕ, ℤ, pos, negsuc, Bool, true, false, List, Option, Some, None}
use Rattle.std.specs.List.{AllByRecursion}
use Rattle.num_type.specs.Constants.{Exact, units, common}
use Rattle.num_type.specs.Types.{least_of, greatest_of}
use Rattle.num_type.specs.View.{exact_of}
use Rattle.num_type.specs.declared.dyadic.Dyadic.{Dyadic}

-- the order of two exact numbers
abbrev pub IsAtMost : Exact → Exact → Type 0
IsAtMost x y = units (common x y) x ≤ℤ units (common x y) y

abbrev pub IsBelow : Exact → Exact → Type 0
IsBelow x y = units (common x y) x <ℤ units (common x y) y

-- a whole number
abbrev pub whole : ℤ → Exact
whole z = record { significand = z; exponent = pos 0 }

-- the number times 2 ^ shift
abbrev pub scaled : ℤ → Exact → Exact
scaled shift x = record { significand = x.significand; exponent = x.exponent +ℤ shift }

-- a significand as a type of this signedness counts it: below 0 it counts as 0 in an unsigned type
abbrev pub counted : Bool → ℤ → ℤ
counted true z = z
counted false (pos n) = pos n
counted false (negsuc n) = pos 0

abbrev pub as_counted : Bool → Exact → Exact
as_counted signed x = record { significand = counted signed x.significand; exponent = x.exponent }

-- at this fraction length the number is at least the least stored integer and below the greatest one plus 1
pub record IsHeld (signed : Bool) (word : ℕ) (fraction : ℤ) (x : Exact) : Type 0 where
  pub least : IsAtMost (whole (least_of signed word)) (scaled fraction (as_counted signed x))
  pub most : IsBelow (scaled fraction (as_counted signed x)) (whole (greatest_of signed word +ℤ pos 1))

-- each value is held
abbrev pub AreHeld : Bool → ℕ → ℤ → List Dyadic → Type 0
AreHeld signed word fraction values = AllByRecursion (λ (d : Dyadic). IsHeld signed word fraction (exact_of d)) values

-- each value counts as 0
abbrev pub AreZero : Bool → List Dyadic → Type 0
AreZero signed values = AllByRecursion (λ (d : Dyadic). counted signed d.m ≡ pos 0) values

-- the bits of a word beside its sign
abbrev pub bits_beside_sign : Bool → ℕ → ℕ
bits_beside_sign true word = word - 1
bits_beside_sign false word = word

-- the best fraction length: the greatest at which each value is held, and for zeros alone the number of bits beside the sign
pub record IsBestFraction (signed : Bool) (word : ℕ) (values : List Dyadic) (best : ℤ) : Type 0 where
  pub zeros : AreZero signed values → best ≡ pos (bits_beside_sign signed word)
  pub greatest : (AreZero signed values → ⊥) → (fraction : ℤ) → AreHeld signed word fraction values ↔ (fraction ≤ℤ best)

-- the least number of bits that hold a size
pub record IsWidth (size width : ℕ) : Type 0 where
  pub below : size < 2 ^ width
  pub least : 2 ^ width ≤ 2 * size + 1

-- a bound from above, where there is one
abbrev pub IsUpTo : Option ℤ → ℤ → Type 0
IsUpTo None z = Unit {0}
IsUpTo (Some bound) z = z ≤ℤ bound
