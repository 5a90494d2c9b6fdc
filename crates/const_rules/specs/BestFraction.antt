-- The best fraction length of numbers, as a function.
use Rattle.std.specs.Prelude.{◌≡◌, ◌↔◌, ℕ, zero, suc, ◌/◌, Bool, true, false, ℤ, pos, negsuc, ◌-ℤ◌, ◌≤ℤ◌, List, [], ◌∷◌, Option, Some, None, unwrap_or}
use Rattle.std.specs.Int.{int_min}
use Rattle.std.specs.List.{AllByRecursion}
use Rattle.num_type.specs.Constants.{Exact}
use Rattle.num_type.specs.Precision.{IsHeld, bits_beside_sign, counted}

-- the least number of bits that hold a size, if they are no more than the bound
unfoldable pub width_up_to : ℕ → ℕ → ℕ
width_up_to zero size = 0
width_up_to (suc most) zero = 0
width_up_to (suc most) (suc n) = suc (width_up_to most (suc n / 2))

-- the least number of bits that hold a size
abbrev pub width_of : ℕ → ℕ
width_of size = width_up_to size size

-- the size that a type has to hold: of a significand below 0 one less, as -2 ^ k is held where 2 ^ k - 1 is; none where it counts as 0
abbrev pub size_in : Bool → ℤ → Option ℕ
size_in signed (pos zero) = None
size_in signed (pos (suc n)) = Some (suc n)
size_in true (negsuc n) = Some n
size_in false (negsuc n) = None

-- the fraction length at which a size with an exponent fills so many bits
abbrev pub filling : ℕ → ℤ → Option ℕ → Option ℤ
filling bits exponent None = None
filling bits exponent (Some size) = Some (pos bits -ℤ exponent -ℤ pos (width_of size))

-- the greatest fraction length at which a type holds a number; none where the number counts as 0, which it holds at each
unfoldable pub greatest_fraction_of : Bool → ℕ → Exact → Option ℤ
greatest_fraction_of signed word x = filling (bits_beside_sign signed word) x.exponent (size_in signed x.significand)

-- the lesser of two, where there are any
abbrev pub lesser : Option ℤ → Option ℤ → Option ℤ
lesser None b = b
lesser (Some x) None = Some x
lesser (Some x) (Some y) = Some (int_min x y)

-- the least of the greatest ones
unfoldable pub common_fraction : Bool → ℕ → List Exact → Option ℤ
common_fraction signed word [] = None
common_fraction signed word (x ∷ more) = lesser (greatest_fraction_of signed word x) (common_fraction signed word more)

-- the best fraction length: for numbers that all count as 0 the bits beside the sign
unfoldable pub best_fraction_of : Bool → ℕ → List Exact → ℤ
best_fraction_of signed word values = unwrap_or (common_fraction signed word values) (pos (bits_beside_sign signed word))

-- each number is held
abbrev pub AreNumbersHeld : Bool → ℕ → ℤ → List Exact → Type 0
AreNumbersHeld signed word fraction values = AllByRecursion (λ (x : Exact). IsHeld signed word fraction x) values

-- each number counts as 0
abbrev pub AreNumbersZero : Bool → List Exact → Type 0
AreNumbersZero signed values = AllByRecursion (λ (x : Exact). counted signed x.significand ≡ pos 0) values

-- the best fraction length of numbers, as a relation
pub record IsBestFractionOf (signed : Bool) (word : ℕ) (values : List Exact) (best : ℤ) : Type 0 where
  pub zeros : AreNumbersZero signed values → best ≡ pos (bits_beside_sign signed word)
  pub greatest : (AreNumbersZero signed values → ⊥) → (fraction : ℤ) → AreNumbersHeld signed word fraction values ↔ (fraction ≤ℤ best)
