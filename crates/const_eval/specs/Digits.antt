-- Numbers as their digits are read.
use Rattle.std.specs.Prelude.{◌≡◌, ◌≤◌, ◌≤ℤ◌, ◌*◌, ◌^◌, ◌⊎◌, ℕ, ℤ, pos, neg_ℤ, List}
use Rattle.std.specs.Str.Parse.{AllDigits, digits_value, signed_digits_value, without_leading_sign}
use Rattle.const_eval.specs.declared.run.Run.{Run}

-- the number of a run of digits
abbrev pub number_of : Run → ℕ
number_of r = r.head * 10 ^ r.zeros

-- without zeros at its end the number has more than 17 digits
abbrev pub IsLong : ℕ → Type 0
IsLong n = (d zeros : ℕ) → n ≡ d * 10 ^ zeros → 10 ^ 17 ≤ d

-- from here on an exponent is out of reach of every literal in a source
abbrev pub power_cap : ℕ
power_cap = 10 ^ 30

-- n is the number that the digits write, or both are out of reach
pub record IsCapped (digits : List ℕ) (n : ℕ) : Type 0 where
  pub all : AllDigits 10 digits
  pub value : (n ≡ digits_value 10 digits) ⊎ ((power_cap ≤ n) × (power_cap ≤ digits_value 10 digits))

-- the same with a sign
pub record IsPower (text : List ℕ) (z : ℤ) : Type 0 where
  pub all : AllDigits 10 (without_leading_sign text)
  pub value : (z ≡ signed_digits_value 10 text) ⊎ ((pos power_cap ≤ℤ z) × (pos power_cap ≤ℤ signed_digits_value 10 text)) ⊎ ((z ≤ℤ neg_ℤ (pos power_cap)) × (signed_digits_value 10 text ≤ℤ neg_ℤ (pos power_cap)))
