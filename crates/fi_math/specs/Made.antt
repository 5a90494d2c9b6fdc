-- Types that are within the limits, and those that are not.
use Rattle.std.specs.Prelude.{ℕ, ℤ, nat_lt, int_lt, ◌||◌, if◌then◌else◌}
use Rattle.num_type.specs.Types.{NumericType, fraction_least, fraction_most}

-- a type, or why there is none: this word length, or this fraction length, is out of its limits
pub data Made : Type 0 where
  Is : NumericType → Made
  Wide : ℕ → Made
  Out : ℤ → Made

-- the type, where it is within the limits: the word length is tested first
unfoldable pub limited : ℕ → NumericType → Made
limited limit t =
    if nat_lt t.word 1 || nat_lt limit t.word then Wide t.word
    else (if int_lt t.fraction fraction_least || int_lt fraction_most t.fraction then Out t.fraction else Is t)

-- the first type that is out of the limits decides
unfoldable pub and_then : Made → (NumericType → Made) → Made
and_then (Is t) next = next t
and_then (Wide w) next = Wide w
and_then (Out f) next = Out f
