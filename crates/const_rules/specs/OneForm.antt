-- The one form of a number, and the constant that a number is.
use Rattle.std.specs.Prelude.{ℕ, ◌*◌, ◌^◌, ◌==◌, ◌&&◌, Bool, if◌then◌else◌, nat_lt, int_le, ℤ, pos, negsuc, ◌+ℤ◌, ◌-ℤ◌, nat_abs, Option, Some, None}
use Rattle.num_type.specs.Constants.{Exact, IsConstant, IsReduced, exponent_least, exponent_most, significand_bits}
use Rattle.num_type.specs.Precision.{whole}
use Rattle.num_type.specs.Whole.{signed, is_below_zero}
use Rattle.const_rules.specs.Splits.{Split, split}

-- the number of a sign, a split size and an exponent
abbrev pub raised : Bool → Split → ℤ → Exact
raised below s exponent = record { significand = signed below s.part; exponent = exponent +ℤ pos s.power }

-- the same number with an odd significand, or both 0
unfoldable pub reduced : Exact → Exact
reduced x =
    if nat_abs x.significand == 0 then whole (pos 0)
    else raised (is_below_zero x.significand) (split 2 (nat_abs x.significand)) x.exponent

-- how far a number is above 0
abbrev pub above_zero : ℤ → ℕ
above_zero (pos n) = n
above_zero (negsuc n) = 0

-- whether an odd size and an exponent are those of a constant, or both are 0
abbrev pub is_kept : ℕ → ℤ → Bool
is_kept size exponent =
    nat_lt (size * 2 ^ above_zero (exponent -ℤ exponent_most)) (2 ^ significand_bits) && int_le exponent_least exponent

abbrev pub kept : Exact → Option Exact
kept x = if is_kept (nat_abs x.significand) x.exponent then Some x else None

-- the constant that a number is, in the one form; none where it is no constant
unfoldable pub constant_of : Exact → Option Exact
constant_of x = kept (reduced x)

-- the answer is a constant of which this holds, in the one form, and none only where it holds of no constant
abbrev pub IsConstantWith : (Exact → Type 0) → Option Exact → Type 0
IsConstantWith P (Some n) = IsReduced n × IsConstant n × P n
IsConstantWith P None = (n : Exact) → IsConstant n → P n → ⊥
