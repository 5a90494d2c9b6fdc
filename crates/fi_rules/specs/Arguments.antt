-- What built-in functions take of their arguments.
use Rattle.std.specs.Prelude.{ℕ, zero, suc, ℤ, pos, negsuc, Bool, true, false, ◌&&◌, int_le, List, [], ◌∷◌, codes, Option, Some, None}
use Rattle.num_type.specs.declared.methods.Rounding.{Rounding}
use Rattle.num_type.specs.declared.methods.Rounding.TheVariants.{Ceiling, Floor, Zero, Nearest, Round, Convergent}
use Rattle.num_type.specs.declared.methods.Overflow.{Overflow}
use Rattle.num_type.specs.declared.methods.Overflow.TheVariants.{Saturate, Wrap}
use Rattle.num_type.specs.Constants.{Exact}
use Rattle.fi_math.specs.declared.fimath.Fimath.{Fimath}
use Rattle.fi_math.specs.declared.fimath.Mode.{Mode}
use Rattle.fi_math.specs.declared.fimath.Mode.TheVariants.{FullPrecision, KeepLSB, KeepMSB, SpecifyPrecision}
use Rattle.const_rules.specs.Stored.{is_exact_at, stored_at}
use Rattle.fi_rules.specs.Value.{is_scalar}
use Rattle.fi_rules.specs.Options.{◌|>◌, where_so, named}
use Rattle.fi_rules.specs.Types.{Ty, NumberTy, TextTy, MathTy}

-- a real scalar constant
unfoldable pub constant_in : Ty → Option Exact
constant_in (NumberTy s (c ∷ [])) = where_so (is_scalar s) c
constant_in t = None

-- the whole number that a constant is
unfoldable pub whole_of : Exact → Option ℤ
whole_of c = where_so (is_exact_at c (pos 0)) (stored_at c (pos 0))

abbrev pub whole_in : Ty → Option ℤ
whole_in t = constant_in t |> whole_of

-- 0 or 1
unfoldable pub bit_of : ℤ → Option Bool
bit_of (pos zero) = Some false
bit_of (pos (suc zero)) = Some true
bit_of z = None

abbrev pub bit_in : Ty → Option Bool
bit_in t = whole_in t |> bit_of

-- a whole number from one to another
abbrev pub within_in : ℤ → ℤ → Ty → Option ℤ
within_in least most t = whole_in t |> (λ z. where_so (int_le least z && int_le z most) z)

-- the size of a number that isn't below 0
unfoldable pub size_of : ℤ → Option ℕ
size_of (pos n) = Some n
size_of (negsuc n) = None

-- a word length from 1 on
unfoldable pub length_of : ℤ → Option ℕ
length_of (pos zero) = None
length_of (pos (suc n)) = Some (suc n)
length_of (negsuc n) = None

abbrev pub length_in : Ty → Option ℕ
length_in t = whole_in t |> length_of

unfoldable pub text_in : Ty → Option (List ℕ)
text_in (TextTy text) = Some text
text_in t = None

unfoldable pub math_in : Ty → Option Fimath
math_in (MathTy m) = Some m
math_in t = None

-- ---- values of properties

abbrev pub roundings : List (List ℕ × Rounding)
roundings =
    (codes "Ceiling", Ceiling) ∷ (codes "Floor", Floor) ∷ (codes "Zero", Zero) ∷ (codes "Nearest", Nearest) ∷ (codes "Round", Round)
    ∷ (codes "Convergent", Convergent) ∷ []

abbrev pub overflows : List (List ℕ × Overflow)
overflows = (codes "Saturate", Saturate) ∷ (codes "Wrap", Wrap) ∷ []

abbrev pub modes : List (List ℕ × Mode)
modes =
    (codes "FullPrecision", FullPrecision) ∷ (codes "KeepLSB", KeepLSB) ∷ (codes "KeepMSB", KeepMSB)
    ∷ (codes "SpecifyPrecision", SpecifyPrecision) ∷ []

abbrev pub rounding_in : Ty → Option Rounding
rounding_in t = text_in t |> named roundings

abbrev pub overflow_in : Ty → Option Overflow
overflow_in t = text_in t |> named overflows

abbrev pub mode_in : Ty → Option Mode
mode_in t = text_in t |> named modes

-- a property's word length, from 1 to 128
abbrev pub word_in : Ty → Option ℕ
word_in t = within_in (pos 1) (pos 128) t |> size_of

-- its fraction length, from -256 to 256
abbrev pub fraction_in : Ty → Option ℤ
fraction_in t = within_in (negsuc 255) (pos 256) t
