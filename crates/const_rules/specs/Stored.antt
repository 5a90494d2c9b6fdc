-- Stored integers of numbers that a fraction length holds exactly.
use Rattle.std.specs.Prelude.{suc, ◌/◌, ◌%◌, ◌^◌, ◌==◌, ◌&&◌, Bool, true, if◌then◌else◌, int_le, ℤ, pos, negsuc, ◌+ℤ◌, ◌*ℤ◌, nat_abs, Option, Some, None}
use Rattle.num_type.specs.Constants.{Exact}
use Rattle.num_type.specs.Types.{NumericType, low, high}
use Rattle.num_type.specs.Whole.{signed, is_below_zero}

-- whether significand * 2 ^ exponent is whole
abbrev pub is_whole : ℤ → ℤ → Bool
is_whole significand (pos k) = true
is_whole significand (negsuc k) = nat_abs significand % 2 ^ suc k == 0

-- that whole number
abbrev pub whole_of : ℤ → ℤ → ℤ
whole_of significand (pos k) = significand *ℤ pos (2 ^ k)
whole_of significand (negsuc k) = signed (is_below_zero significand) (nat_abs significand / 2 ^ suc k)

-- whether the number times 2 ^ fraction is whole
unfoldable pub is_exact_at : Exact → ℤ → Bool
is_exact_at x fraction = is_whole x.significand (x.exponent +ℤ fraction)

-- the number times 2 ^ fraction, where that is whole
unfoldable pub stored_at : Exact → ℤ → ℤ
stored_at x fraction = whole_of x.significand (x.exponent +ℤ fraction)

-- the stored integer at a fraction length, where there is one between these bounds
unfoldable pub stored_within : ℤ → ℤ → ℤ → Exact → Option ℤ
stored_within least most fraction x =
    if is_exact_at x fraction && (int_le least (stored_at x fraction) && int_le (stored_at x fraction) most) then Some (stored_at x fraction)
    else None

-- the stored integer in a type that holds the number exactly
abbrev pub stored_in : NumericType → Exact → Option ℤ
stored_in t x = stored_within (low t) (high t) t.fraction x

-- the whole number that the number is, where there is one between these bounds
abbrev pub whole_within : ℤ → ℤ → Exact → Option ℤ
whole_within least most x = stored_within least most (pos 0) x
