-- What the text of a number stands for.
use Rattle.std.specs.Prelude.{◌≡◌, ◌≢◌, ◌+◌, ◌*◌, ◌^◌, ◌%◌, ◌<◌, ◌≤ℤ◌, ◌+ℤ◌, ◌-ℤ◌, ℕ, suc, ℤ, pos, negsuc, Bool, not, ◌==◌, List, ◌++◌, length, take, drop}
use Rattle.std.specs.List.{prefix_len}
use Rattle.std.specs.Str.Parse.{AllDigits, digits_value, signed_digits_value, without_leading_sign}
use Rattle.fic_base.specs.Decimal.{is_exponent_letter}
use Rattle.num_type.specs.Constants.{Exact, IsSame, product_of}
use Rattle.num_type.specs.Precision.{whole}
use Rattle.num_type.specs.View.{exact_of}
use Rattle.num_type.specs.declared.dyadic.Dyadic.{Dyadic}

-- Parts of the text

abbrev pub is_mantissa_byte : ℕ → Bool
is_mantissa_byte b = not (is_exponent_letter b)

abbrev pub is_whole_byte : ℕ → Bool
is_whole_byte b = not (b == 46)

-- what stands before the letter of the exponent, and the exponent
abbrev pub mantissa_of : List ℕ → List ℕ
mantissa_of text = take (prefix_len is_mantissa_byte text) text

abbrev pub exponent_of : List ℕ → List ℕ
exponent_of text = drop (prefix_len is_mantissa_byte text + 1) text

-- what stands before the point, and behind it
abbrev pub whole_part : List ℕ → List ℕ
whole_part mantissa = take (prefix_len is_whole_byte mantissa) mantissa

abbrev pub fraction_part : List ℕ → List ℕ
fraction_part mantissa = drop (prefix_len is_whole_byte mantissa + 1) mantissa

-- Numbers n * 10 ^ power

-- the same number without zeros at its end
pub record IsTrimmed (n : ℕ) (power : ℤ) (digits : ℕ) (tens : ℤ) : Type 0 where
  pub zeros : ℕ
  pub number : n ≡ digits * 10 ^ zeros
  pub raised : tens ≡ power +ℤ pos zeros
  pub last : digits % 10 ≢ 0

-- at most 17 digits, and a power of 10 from -22 to 22
pub record IsShort (digits : ℕ) (tens : ℤ) : Type 0 where
  pub few : digits < 10 ^ 17
  pub least : negsuc 21 ≤ℤ tens
  pub most : tens ≤ℤ pos 22

-- x is digits * 10 ^ tens
abbrev pub IsTenfold : ℕ → ℤ → Exact → Type 0
IsTenfold digits (pos k) x = IsSame x (whole (pos (digits * 10 ^ k)))
IsTenfold digits (negsuc k) x = IsSame (product_of x (whole (pos (10 ^ suc k)))) (whole (pos digits))

-- x is n * 10 ^ power, which is 0 or short
pub data IsDecimalValue (n : ℕ) (power : ℤ) (x : Exact) : Type 0 where
  Nought : n ≡ 0 → x.significand ≡ pos 0 → IsDecimalValue n power x
  Short : (digits : ℕ) (tens : ℤ) → IsTrimmed n power digits tens → IsShort digits tens → IsTenfold digits tens x → IsDecimalValue n power x

-- the digits n, of which so many stand behind the point, with an exponent
pub record IsValueOf (n places : ℕ) (exponent : List ℕ) (x : Exact) : Type 0 where
  pub digits : AllDigits 10 (without_leading_sign exponent)
  pub value : IsDecimalValue n (signed_digits_value 10 exponent -ℤ pos places) x

abbrev pub NoValueOf : ℕ → ℕ → List ℕ → Type 0
NoValueOf n places exponent = (d : Dyadic) → IsValueOf n places exponent (exact_of d) → ⊥

-- the number that a text stands for
pub record IsLiteral (text : List ℕ) (x : Exact) : Type 0 where
  pub whole_digits : AllDigits 10 (whole_part (mantissa_of text))
  pub fraction_digits : AllDigits 10 (fraction_part (mantissa_of text))
  pub value : IsValueOf (digits_value 10 (whole_part (mantissa_of text) ++ fraction_part (mantissa_of text))) (length (fraction_part (mantissa_of text))) (exponent_of text) x

-- the text stands for no constant
abbrev pub NoLiteral : List ℕ → Type 0
NoLiteral text = (d : Dyadic) → IsLiteral text (exact_of d) → ⊥
