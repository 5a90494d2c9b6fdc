-- Decimal numbers as a source writes them.
use Rattle.std.specs.Prelude.{◌≡◌, ℕ, ◌+◌, ◌<◌, ◌≤◌, Bool, ◌||◌, ◌==◌, List, length, slice_index, IsTrue}
use Rattle.fic_base.specs.Names.{is_digit}

-- the bytes from one index up to another are digits
abbrev pub AreDigits : List ℕ → ℕ → ℕ → Type 0
AreDigits s from to = (k : ℕ) → from ≤ k → k < to → IsTrue (is_digit (slice_index s k))

-- up to an index: digits, digits with a point and more digits or none, or a point with digits
pub data MantissaTo (s : List ℕ) (to : ℕ) : Type 0 where
  Whole : 0 < to → AreDigits s 0 to → MantissaTo s to
  Pointed : (point : ℕ) → 0 < point → AreDigits s 0 point → slice_index s point ≡ 46 → point < to → AreDigits s (point + 1) to → MantissaTo s to
  Fraction : slice_index s 0 ≡ 46 → 1 < to → AreDigits s 1 to → MantissaTo s to

-- `e`, `E`, `d` or `D`
abbrev pub is_exponent_letter : ℕ → Bool
is_exponent_letter b = b == 101 || (b == 69 || (b == 100 || b == 68))

-- `+` or `-`
abbrev pub is_sign : ℕ → Bool
is_sign b = b == 43 || b == 45

-- from one index up to another: nothing, or a letter, a sign or none, and digits
pub data ExponentTo (s : List ℕ) (from to : ℕ) : Type 0 where
  Absent : from ≡ to → ExponentTo s from to
  Unsigned : IsTrue (is_exponent_letter (slice_index s from)) → from + 1 < to → AreDigits s (from + 1) to → ExponentTo s from to
  Signed : IsTrue (is_exponent_letter (slice_index s from)) → IsTrue (is_sign (slice_index s (from + 1))) →
      from + 2 < to → AreDigits s (from + 2) to → ExponentTo s from to

-- the text of a number without an `i` or `j`
abbrev pub IsDecimal : List ℕ → Type 0
IsDecimal text = (mantissa : ℕ) × MantissaTo text mantissa × ExponentTo text mantissa (length text)
