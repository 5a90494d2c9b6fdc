-- One number that stands for an array of them, where a rule asks for the best fraction length of all.
use Rattle.std.specs.Prelude.{Bool, true, false, ◌++◌, int_lt, ℤ, pos, ◌+ℤ◌, List, [], ◌∷◌, Option, Some, None, option_map, if◌then◌else◌}
use Rattle.num_type.specs.Constants.{Exact}
use Rattle.const_rules.specs.BestFraction.{size_in, width_of}
use Rattle.fi_rules.specs.Arguments.{bit_in}
use Rattle.fi_rules.specs.Pairs.{scalar_number}
use Rattle.fi_rules.specs.Types.{Ty, OtherTy}
use Rattle.fi_rules.specs.Value.{Val, Number, ComplexNumber}
use Rattle.fi_values.specs.Numbers.{nought}
use Rattle.fi_meaning.specs.Calls.{Argument, constants, element_ty, value_ty}

-- the power of 2 below which a number is, as a type with a sign or without counts it; none where it counts as 0
unfoldable pub top_of : Bool → Exact → Option ℤ
top_of signed x = option_map (λ n. x.exponent +ℤ pos (width_of n)) (size_in signed x.significand)

abbrev pub is_above : Option ℤ → Option ℤ → Bool
is_above None b = false
is_above (Some x) None = true
is_above (Some x) (Some y) = int_lt y x

-- the second where it is wider
abbrev pub wider : Bool → Exact → Exact → Exact
wider signed x y = if is_above (top_of signed y) (top_of signed x) then y else x

-- the widest from one number on
abbrev pub widest_from : Bool → Exact → List Exact → Exact
widest_from signed x [] = x
widest_from signed x (y ∷ ys) = widest_from signed (wider signed x y) ys

abbrev pub widest : Bool → List Exact → Exact
widest signed xs = widest_from signed nought xs

-- whether what a constant states is a sign; one is, where it states nothing
abbrev pub stated_sign : Option Bool → Bool
stated_sign None = true
stated_sign (Some b) = b

-- whether the types behind a value state one with a sign
abbrev pub states_sign : List Ty → Bool
states_sign [] = true
states_sign (t ∷ ts) = stated_sign (bit_in t)

abbrev pub is_signed : List Argument → Bool
is_signed [] = true
is_signed (a ∷ more) = states_sign (constants more)

-- the type of an argument that is no constant
unfoldable pub other_type : Val → Ty
other_type (Number s cs) = OtherTy
other_type (ComplexNumber s xs ys) = OtherTy
other_type v = element_ty v

-- the type of a value that is taken into one
unfoldable pub represented : Bool → Val → Ty
represented signed (Number s cs) = scalar_number (widest signed cs)
represented signed (ComplexNumber s xs ys) = scalar_number (widest signed (xs ++ ys))
represented signed v = value_ty v

-- the types of arguments, with one number for an array
unfoldable pub represented_types : Bool → List Argument → List Ty
represented_types true (a ∷ more) = represented (states_sign (constants more)) a.value ∷ constants more
represented_types b args = constants args
