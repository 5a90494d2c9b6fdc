-- The constant that the text of a number stands for, as a function.
use Rattle.std.specs.Prelude.{ℕ, suc, ◌*◌, ◌/◌, ◌%◌, ◌^◌, ◌==◌, ◌&&◌, Bool, true, false, if◌then◌else◌, nat_lt, int_le, ℤ, pos, negsuc, ◌+ℤ◌, ◌-ℤ◌, List, [], ◌∷◌, ◌++◌, length, Option, Some, None}
use Rattle.std.specs.Char.{digit_value}
use Rattle.std.specs.Str.Parse.{digits_value, signed_digits_value, without_leading_sign}
use Rattle.num_type.specs.Constants.{Exact}
use Rattle.num_type.specs.Precision.{whole}
use Rattle.const_eval.specs.Literals.{mantissa_of, exponent_of, whole_part, fraction_part}
use Rattle.const_rules.specs.Splits.{Split, split}
use Rattle.const_rules.specs.OneForm.{constant_of}

-- all are decimal digits
abbrev pub are_digits : List ℕ → Bool
are_digits [] = true
are_digits (c ∷ more) = nat_lt (digit_value c) 10 && are_digits more

-- at most 17 digits, and a power of 10 from -22 to 22
abbrev pub is_short : ℕ → ℤ → Bool
is_short digits tens = nat_lt digits (10 ^ 17) && (int_le (negsuc 21) tens && int_le tens (pos 22))

-- digits * 10 ^ tens, where that is a constant: below 0 the powers of 5 have to divide the digits
unfoldable pub tenfold_of : ℕ → ℤ → Option Exact
tenfold_of digits (pos k) = constant_of (whole (pos (digits * 10 ^ k)))
tenfold_of digits (negsuc k) =
    if digits % 5 ^ suc k == 0 then constant_of (record { significand = pos (digits / 5 ^ suc k); exponent = negsuc k }) else None

-- the same only where they are short
abbrev pub tenfold_if : Bool → ℕ → ℤ → Option Exact
tenfold_if true digits tens = tenfold_of digits tens
tenfold_if false digits tens = None

-- digits without zeros at their end, behind which the power of 10 stands
abbrev pub short_of : Split → ℤ → Option Exact
short_of s power = tenfold_if (is_short s.part (power +ℤ pos s.power)) s.part (power +ℤ pos s.power)

-- n * 10 ^ power, which is 0 or short
unfoldable pub decimal_of : ℕ → ℤ → Option Exact
decimal_of n power = if n == 0 then Some (whole (pos 0)) else short_of (split 10 n) power

-- the parts of a text before the point, behind it and behind the letter
abbrev pub value_of : List ℕ → List ℕ → List ℕ → Option Exact
value_of front back exponent =
    if are_digits front && (are_digits back && are_digits (without_leading_sign exponent)) then
    decimal_of (digits_value 10 (front ++ back)) (signed_digits_value 10 exponent -ℤ pos (length back))
    else None

-- the constant that a text stands for; none where it is refused
unfoldable pub literal_of : List ℕ → Option Exact
literal_of text = value_of (whole_part (mantissa_of text)) (fraction_part (mantissa_of text)) (exponent_of text)
