-- Calls of built-in functions: their conditions on the types of the arguments, in the order of the codes, and the types of their results.
use Rattle.std.specs.Prelude.{ℕ, zero, suc, ℤ, Bool, true, false, not, List, [], ◌∷◌, length, codes, Option, Some, None, bytes_eq}
use Rattle.fic_base.specs.declared.code.Code.TheVariants as code
use Rattle.num_type.specs.Types.{NumericType}
use Rattle.fi_math.specs.declared.fimath.Fimath.{Fimath}
use Rattle.fi_math.specs.Govern.{usual}
use Rattle.fi_math.specs.Made.{limited}
use Rattle.const_rules.specs.BestFraction.{best_fraction_of}
use Rattle.fi_rules.specs.declared.built_ins.BuiltIn.{BuiltIn}
use Rattle.fi_rules.specs.declared.built_ins.BuiltIn.TheVariants as built_in
use Rattle.fi_rules.specs.Options.{named}
use Rattle.fi_rules.specs.Checked.{Checked, Fine, Missing, Itself, Counts, ◌>>=◌, needed, when◌then◌else◌}
use Rattle.fi_rules.specs.Types.{Ty, FiTy, NumberTy, TextTy, MathTy, TypeTy, OtherTy}
use Rattle.fi_rules.specs.Arguments.{bit_in, whole_in, length_in, math_in}
use Rattle.fi_rules.specs.Properties.{with_properties}
use Rattle.fi_rules.specs.Pairs.{limits_checked}

-- the built-in functions that are supported so far, by their names
abbrev pub built_ins : List (List ℕ × BuiltIn)
built_ins =
    (codes "abs", built_in.Abs) ∷ (codes "fi", built_in.Fi) ∷ (codes "numerictype", built_in.Numerictype) ∷ (codes "fimath", built_in.Fimath)
    ∷ (codes "setfimath", built_in.SetFimath) ∷ (codes "removefimath", built_in.RemoveFimath) ∷ (codes "cast", built_in.Cast) ∷ []

unfoldable pub built_in_named : List ℕ → Option BuiltIn
built_in_named name = named built_ins name

-- what a call asks for, before the limits of its type are tested
pub data Asked : Type 0 where
  -- its first argument in this type, with this fimath, which quantises it, or else the default one
  Takes : NumericType → Option Fimath → Asked
  -- its first argument with this fimath in place of its own
  Attaches : Option Fimath → Asked
  -- its first argument without its sign
  TakesSign : Asked
  MakesType : NumericType → Asked
  MakesMath : Fimath → Asked

-- an argument of a class or value that isn't taken
abbrev pub bad : {A : Type 0} → Checked A
bad = Missing code.BadArgument Itself

abbrev pub taken : {A : Type 0} → Option A → Checked A
taken = needed code.BadArgument Itself

-- so many arguments are wanted: the least number that is taken above these, or the greatest
abbrev pub counted_as : {A : Type 0} → ℕ → ℕ → Checked A
counted_as have want = Missing code.ArgCount (Counts have want)

-- ---- fi

abbrev pub fixed : Bool → ℕ → ℤ → NumericType
fixed signed word fraction = record { signed = signed; word = word; fraction = fraction }

-- a constant at its best fraction length; a fi needs a stated one
unfoldable pub best_asked : Bool → ℕ → Option Fimath → Ty → Checked Asked
best_asked signed word m (NumberTy s cs) = Fine (Takes (fixed signed word (best_fraction_of signed word cs)) m)
best_asked signed word m t = bad

-- a number or a fi
unfoldable pub is_numeric : Ty → Bool
is_numeric (FiTy t m) = true
is_numeric (NumberTy s cs) = true
is_numeric t = false

-- a number or a fi in a stated type
abbrev pub stated_asked : NumericType → Option Fimath → Ty → Checked Asked
stated_asked t m v = when is_numeric v then Fine (Takes t m) else bad

-- a signedness, a word length and a fraction length
abbrev pub type_asked : Ty → Ty → Ty → Checked NumericType
type_asked s w f =
    taken (bit_in s) >>= (λ signed. taken (length_in w) >>= (λ word. taken (whole_in f) >>= (λ fraction. Fine (fixed signed word fraction))))

-- a signedness and a word length, for the best fraction length
abbrev pub best_by : Ty → Ty → Option Fimath → Ty → Checked Asked
best_by s w m v = taken (bit_in s) >>= (λ signed. taken (length_in w) >>= (λ word. best_asked signed word m v))

-- with one argument behind the value, two, three and four
unfoldable pub fi_one : Ty → Ty → Checked Asked
fi_one v (TypeTy t) = stated_asked t None v
fi_one v s = taken (bit_in s) >>= (λ signed. best_asked signed 16 None v)

unfoldable pub fi_two : Ty → Ty → Ty → Checked Asked
fi_two v (TypeTy t) m = taken (math_in m) >>= (λ n. stated_asked t (Some n) v)
fi_two v s w = best_by s w None v

unfoldable pub fi_three : Ty → Ty → Ty → Ty → Checked Asked
fi_three v s w (MathTy m) = best_by s w (Some m) v
fi_three v s w f = type_asked s w f >>= (λ t. stated_asked t None v)

unfoldable pub fi_four : Ty → Ty → Ty → Ty → Ty → Checked Asked
fi_four v s w f m = type_asked s w f >>= (λ t. taken (math_in m) >>= (λ n. stated_asked t (Some n) v))

unfoldable pub fi_asked : List Ty → Checked Asked
fi_asked [] = counted_as 0 1
fi_asked (v ∷ []) = best_asked true 16 None v
fi_asked (v ∷ a ∷ []) = fi_one v a
fi_asked (v ∷ a ∷ b ∷ []) = fi_two v a b
fi_asked (v ∷ a ∷ b ∷ c ∷ []) = fi_three v a b c
fi_asked (v ∷ a ∷ b ∷ c ∷ d ∷ []) = fi_four v a b c d
fi_asked ts = counted_as (length ts) 5

-- ---- objects

-- the type of a fi
unfoldable pub type_made : Ty → Checked Asked
type_made (FiTy t m) = Fine (MakesType t)
type_made t = bad

unfoldable pub numerictype_asked : List Ty → Checked Asked
numerictype_asked [] = counted_as 0 1
numerictype_asked (a ∷ []) = type_made a
numerictype_asked (s ∷ w ∷ []) = counted_as 2 3
numerictype_asked (s ∷ w ∷ f ∷ []) = type_asked s w f >>= (λ t. Fine (MakesType t))
numerictype_asked ts = counted_as (length ts) 3

abbrev pub is_even : ℕ → Bool
is_even zero = true
is_even (suc n) = not (is_even n)

-- pairs of names and values
unfoldable pub fimath_asked : List Ty → Checked Asked
fimath_asked ts =
    when is_even (length ts) then (taken (with_properties ts [] usual) >>= (λ m. Fine (MakesMath m)))
    else counted_as (length ts) (suc (length ts))

-- ---- other fimaths, casts and signs

unfoldable pub set_asked : Ty → Ty → Checked Asked
set_asked (FiTy t m) (MathTy n) = Fine (Attaches (Some n))
set_asked a b = bad

unfoldable pub setfimath_asked : List Ty → Checked Asked
setfimath_asked (a ∷ b ∷ []) = set_asked a b
setfimath_asked ts = counted_as (length ts) 2

unfoldable pub remove_asked : Ty → Checked Asked
remove_asked (FiTy t m) = Fine (Attaches None)
remove_asked a = bad

unfoldable pub removefimath_asked : List Ty → Checked Asked
removefimath_asked (a ∷ []) = remove_asked a
removefimath_asked ts = counted_as (length ts) 1

-- a value, the word like, and the fi whose type and fimath are taken
unfoldable pub like_asked : Ty → Ty → Ty → Checked Asked
like_asked v (TextTy word) (FiTy t m) = when bytes_eq word (codes "like") then stated_asked t m v else bad
like_asked v a b = bad

unfoldable pub cast_asked : List Ty → Checked Asked
cast_asked (v ∷ a ∷ b ∷ []) = like_asked v a b
cast_asked ts = counted_as (length ts) 3

unfoldable pub sign_asked : Ty → Checked Asked
sign_asked (FiTy t m) = Fine TakesSign
sign_asked a = bad

unfoldable pub abs_asked : List Ty → Checked Asked
abs_asked (a ∷ []) = sign_asked a
abs_asked ts = counted_as (length ts) 1

-- ---- a call

unfoldable pub asked : BuiltIn → List Ty → Checked Asked
asked built_in.Abs ts = abs_asked ts
asked built_in.Fi ts = fi_asked ts
asked built_in.Numerictype ts = numerictype_asked ts
asked built_in.Fimath ts = fimath_asked ts
asked built_in.SetFimath ts = setfimath_asked ts
asked built_in.RemoveFimath ts = removefimath_asked ts
asked built_in.Cast ts = cast_asked ts

-- what a call gives
pub data Built : Type 0 where
  -- its first argument in a type within the limits, with this fimath
  Taken : NumericType → Option Fimath → Built
  Attached : Option Fimath → Built
  SignTaken : Built
  -- a value that is known without a run
  Object : Ty → Built

-- a type is within the limits
unfoldable pub built : Asked → Checked Built
built (Takes t m) = limits_checked (limited 64 t) >>= (λ u. Fine (Taken u m))
built (Attaches m) = Fine (Attached m)
built TakesSign = Fine SignTaken
built (MakesType t) = limits_checked (limited 64 t) >>= (λ u. Fine (Object (TypeTy u)))
built (MakesMath m) = Fine (Object (MathTy m))

-- a fi's type with another fimath
unfoldable pub with_math : Option Fimath → Ty → Ty
with_math m (FiTy t n) = FiTy t m
with_math m u = OtherTy

-- the type of what a call gives, from the types of its arguments
unfoldable pub built_type : Built → List Ty → Ty
built_type (Taken t m) us = FiTy t m
built_type (Attached m) (u ∷ us) = with_math m u
built_type SignTaken (u ∷ us) = u
built_type (Object t) us = t
built_type b [] = OtherTy

-- a call on arguments of these types
abbrev pub call_checked : BuiltIn → List Ty → Checked Built
call_checked b ts = asked b ts >>= built
