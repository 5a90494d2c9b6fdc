-- Worked rows of the conditions of calls that make values, by computing: each where the next one in the order of the codes is missing too.
use Rattle.std.proofs.Common.{◌≡◌, refl, false, true, [], ◌∷◌, List}
use Rattle.std.specs.Prelude.{ℕ, ℤ, pos, negsuc, codes, Some, None}
use Rattle.fic_base.specs.declared.code.Code.TheVariants as code
use Rattle.const_rules.specs.Stored.{is_exact_at, stored_at}
use Rattle.fi_math.specs.Govern.{usual}
use Rattle.fi_math.specs.Made.{limited}
use Rattle.fi_rules.specs.declared.built_ins.BuiltIn.TheVariants as built_in
use Rattle.fi_rules.specs.Arguments.{constant_in, whole_of, bit_of, length_of, text_in}
use Rattle.fi_rules.specs.Calls.{asked, is_numeric, best_asked, fi_two, fi_three, fi_asked, type_made, numerictype_asked, fimath_asked, set_asked, setfimath_asked, remove_asked, removefimath_asked, like_asked, cast_asked, sign_asked, abs_asked, built, built_in_named}
use Rattle.fi_rules.specs.Checked as checked
use Rattle.fi_rules.specs.Checked.{Itself, Counts, Whole}
use Rattle.fi_rules.specs.Options.{and_then, where_so, named, all_of}
use Rattle.fi_rules.specs.Pairs.{limits_checked}
use Rattle.fi_rules.specs.Properties.{with_property, with_properties}
use Rattle.fi_rules.specs.Value.{scalar}
use Rattle.fi_values.specs.Numbers.{nought, one}
use Rattle.fi_meaning.specs.Calls.{single_ty, takes}
use Rattle.fi_meaning.specs.Functions.{natural, function_of}
use Rattle.node_rules.specs.Arguments.{ArgumentTy, plain, wanted_node, element_of, constant_of, value_of, element_types}
use Rattle.node_rules.specs.Calls.{function_types, function_call_met, either_met, stand_in, is_told_before, excluded, items_met, call_met, call_worked, call_ruled}
use Rattle.node_rules.specs.Filling.{whole_constant, may_size, is_like, filled_met, filled_node, filled_worked, filled_ruled}
use Rattle.node_rules.specs.Makers.{is_complex_fi, is_supported, takes_parts, maker_met, first_ty, is_complex_call, object_node, built_node, maker_ruled}
use Rattle.node_rules.specs.Ranges.{is_fi}
use Rattle.node_rules.specs.Ruled.{Ruled, Fine, Missing, Shows, Most, bind, needed, tested, ruled}
use Rattle.node_rules.specs.Types.{NodeTy, FiNode, LogicalNode, NumberNode, IndexNode, TextNode, MathNode, is_complex, known}
use Rattle.node_rules.proofs.RangeRows.{number}
use Rattle.node_rules.proofs.Rows.{u8}

-- ---- types of arguments

abbrev a : NodeTy
a = FiNode u8 None false scalar

abbrev c : NodeTy
c = FiNode u8 None true scalar

abbrev index : NodeTy
index = IndexNode (pos 1) (pos 3)

abbrev truth : NodeTy
truth = LogicalNode scalar

abbrev half : NodeTy
half = NumberNode scalar (record { significand = pos 1; exponent = negsuc 0 } ∷ []) None

-- a fi whose word is too long, as no source has it
abbrev wide : NodeTy
wide = FiNode (record { signed = true; word = 65; fraction = pos 300 }) None false scalar

abbrev n : ℤ → ArgumentTy
n z = plain (number z)

abbrev text : List ℕ → NodeTy
text word = TextNode word

abbrev like : NodeTy
like = TextNode (codes "like")

abbrev word_true : ArgumentTy
word_true = record { ty = truth; word = Some true }

-- the name, or the number of arguments and the one that is wanted
abbrev excluded_argument : {A : Type 0} → Ruled A
excluded_argument = Missing code.BadArgument (Shows Itself)

abbrev counted : {A : Type 0} → ℕ → ℕ → Ruled A
counted have want = Missing code.ArgCount (Shows (Counts have want))

-- ---- fi

-- fi(), and with six texts: how many there are before what they are
fi_none : maker_met built_in.Fi [] ≡ counted 0 1
unfolding bind tested is_supported ruled asked fi_asked element_types takes
fi_none = refl

fi_many : maker_met built_in.Fi (plain like ∷ plain like ∷ plain like ∷ plain like ∷ plain like ∷ plain like ∷ []) ≡ counted 6 5
unfolding bind tested is_supported ruled asked fi_asked element_types takes
fi_many = refl

-- best precision is of constants, and a stated type takes no index
fi_of_a_fi : maker_met built_in.Fi (plain a ∷ []) ≡ excluded_argument
unfolding bind tested is_supported ruled asked fi_asked element_types takes best_asked value_of element_of
fi_of_a_fi = refl

fi_of_a_word : maker_met built_in.Fi (word_true ∷ n (pos 1) ∷ n (pos 8) ∷ []) ≡ excluded_argument
unfolding bind tested is_supported ruled asked fi_asked element_types takes fi_two constant_of wanted_node single_ty checked.bind checked.needed and_then constant_in where_so whole_of is_exact_at bit_of stored_at length_of best_asked value_of
fi_of_a_word = refl

fi_of_an_index : maker_met built_in.Fi (plain index ∷ n (pos 1) ∷ n (pos 8) ∷ n (pos 0) ∷ []) ≡ excluded_argument
unfolding bind tested is_supported ruled asked fi_asked element_types takes fi_three constant_of wanted_node single_ty checked.bind checked.needed and_then constant_in where_so whole_of is_exact_at bit_of stored_at length_of checked.choose is_numeric value_of element_of
fi_of_an_index = refl

-- a stated type takes a logical
fi_of_a_truth : maker_ruled built_in.Fi (word_true ∷ n (pos 1) ∷ n (pos 8) ∷ n (pos 0) ∷ []) ≡ Fine (FiNode (record { signed = true; word = 8; fraction = pos 0 }) None false scalar)
unfolding bind tested is_supported ruled asked fi_asked element_types takes fi_three constant_of wanted_node single_ty checked.bind checked.needed and_then constant_in where_so whole_of is_exact_at bit_of stored_at length_of checked.choose is_numeric value_of takes_parts built limits_checked limited built_node is_complex_call first_ty is_complex
fi_of_a_truth = refl

-- the word true is the constant 1, and a logical is none
signed_by_a_word : maker_ruled built_in.Fi (n (pos 3) ∷ word_true ∷ n (pos 8) ∷ n (pos 0) ∷ []) ≡ Fine (FiNode (record { signed = true; word = 8; fraction = pos 0 }) None false scalar)
unfolding bind tested is_supported ruled asked fi_asked element_types takes fi_three constant_of wanted_node single_ty checked.bind checked.needed and_then constant_in where_so whole_of is_exact_at bit_of stored_at length_of checked.choose is_numeric value_of element_of takes_parts built limits_checked limited built_node is_complex_call first_ty is_complex
signed_by_a_word = refl

signed_by_a_truth : maker_met built_in.Fi (n (pos 3) ∷ plain truth ∷ n (pos 8) ∷ n (pos 0) ∷ []) ≡ excluded_argument
unfolding bind tested is_supported ruled asked fi_asked element_types takes fi_three constant_of wanted_node single_ty checked.bind checked.needed and_then constant_in element_of
signed_by_a_truth = refl

-- a signedness of 2 before a word length of 65
signed_twice : maker_ruled built_in.Fi (n (pos 3) ∷ n (pos 2) ∷ n (pos 65) ∷ n (pos 0) ∷ []) ≡ excluded_argument
unfolding bind tested is_supported ruled asked fi_asked element_types takes fi_three constant_of wanted_node single_ty checked.bind checked.needed and_then constant_in where_so whole_of is_exact_at bit_of stored_at
signed_twice = refl

-- a word length of 0
no_word : maker_met built_in.Fi (n (pos 3) ∷ n (pos 1) ∷ n (pos 0) ∷ n (pos 300) ∷ []) ≡ excluded_argument
unfolding bind tested is_supported ruled asked fi_asked element_types takes fi_three constant_of wanted_node single_ty checked.bind checked.needed and_then constant_in where_so whole_of is_exact_at bit_of stored_at length_of
no_word = refl

-- a word length of 65 before a fraction length of 300
long_word : maker_ruled built_in.Fi (n (pos 3) ∷ n (pos 1) ∷ n (pos 65) ∷ n (pos 300) ∷ []) ≡ Missing code.TooWide (Shows (Whole (pos 65)))
unfolding bind tested is_supported ruled asked fi_asked element_types takes fi_three constant_of wanted_node single_ty checked.bind checked.needed and_then constant_in where_so whole_of is_exact_at bit_of stored_at length_of checked.choose is_numeric value_of element_of takes_parts built limits_checked limited
long_word = refl

far_fraction : maker_ruled built_in.Fi (n (pos 3) ∷ n (pos 1) ∷ n (pos 64) ∷ n (pos 300) ∷ []) ≡ Missing code.FractionOut (Shows (Whole (pos 300)))
unfolding bind tested is_supported ruled asked fi_asked element_types takes fi_three constant_of wanted_node single_ty checked.bind checked.needed and_then constant_in where_so whole_of is_exact_at bit_of stored_at length_of checked.choose is_numeric value_of element_of takes_parts built limits_checked limited
far_fraction = refl

-- ---- objects

-- numerictype(1, 8), and of a text
type_of_two : maker_met built_in.Numerictype (n (pos 1) ∷ plain like ∷ []) ≡ counted 2 3
unfolding bind tested is_supported ruled asked numerictype_asked element_types takes
type_of_two = refl

type_of_a_text : maker_met built_in.Numerictype (plain like ∷ []) ≡ excluded_argument
unfolding bind tested is_supported ruled asked numerictype_asked element_types takes type_made constant_of wanted_node element_of
type_of_a_text = refl

-- a signedness of 2 before a word length of 65, and this before a fraction length of 300
type_signed_twice : maker_ruled built_in.Numerictype (n (pos 2) ∷ n (pos 65) ∷ n (pos 300) ∷ []) ≡ excluded_argument
unfolding bind tested is_supported ruled asked numerictype_asked element_types takes checked.bind checked.needed and_then constant_in constant_of wanted_node single_ty where_so whole_of is_exact_at bit_of stored_at
type_signed_twice = refl

type_long_word : maker_ruled built_in.Numerictype (n (pos 1) ∷ n (pos 65) ∷ n (pos 300) ∷ []) ≡ Missing code.TooWide (Shows (Whole (pos 65)))
unfolding bind tested is_supported ruled asked numerictype_asked element_types takes checked.bind checked.needed and_then constant_in constant_of wanted_node single_ty where_so whole_of is_exact_at bit_of stored_at length_of takes_parts built limits_checked limited
type_long_word = refl

-- an odd number of arguments before what they are
math_of_one : maker_met built_in.Fimath (plain a ∷ []) ≡ counted 1 2
unfolding bind tested is_supported ruled asked fimath_asked checked.choose element_types takes
math_of_one = refl

-- no property, a logical where a constant is wanted, and the word
math_of_no_property : maker_met built_in.Fimath (plain like ∷ n (pos 1) ∷ []) ≡ excluded_argument
unfolding bind tested is_supported ruled asked fimath_asked checked.choose element_types takes checked.bind checked.needed with_properties and_then text_in constant_of wanted_node element_of with_property named
math_of_no_property = refl

math_of_a_truth : maker_met built_in.Fimath (plain (text (codes "CastBeforeSum")) ∷ plain truth ∷ []) ≡ excluded_argument
unfolding bind tested is_supported ruled asked fimath_asked checked.choose element_types takes checked.bind checked.needed with_properties and_then text_in constant_of wanted_node element_of with_property named constant_in
math_of_a_truth = refl

math_of_a_word : maker_ruled built_in.Fimath (plain (text (codes "CastBeforeSum")) ∷ word_true ∷ []) ≡ Fine (MathNode usual)
unfolding bind tested is_supported ruled asked fimath_asked checked.choose element_types takes checked.bind checked.needed with_properties and_then text_in constant_of wanted_node element_of with_property named constant_in single_ty where_so whole_of is_exact_at bit_of stored_at takes_parts built built_node object_node
math_of_a_word = refl

-- ---- other fimaths

-- setfimath(a), and of a number with no fimath
set_of_one : maker_met built_in.SetFimath (n (pos 1) ∷ []) ≡ counted 1 2
unfolding bind tested is_supported ruled asked setfimath_asked element_types takes
set_of_one = refl

set_of_a_number : maker_met built_in.SetFimath (n (pos 1) ∷ plain (MathNode usual) ∷ []) ≡ excluded_argument
unfolding bind tested is_supported ruled asked setfimath_asked element_types takes set_asked constant_of wanted_node single_ty
set_of_a_number = refl

set_to_a_text : maker_met built_in.SetFimath (plain a ∷ plain like ∷ []) ≡ excluded_argument
unfolding bind tested is_supported ruled asked setfimath_asked element_types takes set_asked constant_of wanted_node element_of
set_to_a_text = refl

set_of_a_complex_fi : maker_ruled built_in.SetFimath (plain c ∷ plain (MathNode usual) ∷ []) ≡ Fine (FiNode u8 (Some usual) true scalar)
unfolding bind tested is_supported ruled asked setfimath_asked element_types takes set_asked constant_of wanted_node element_of takes_parts built built_node first_ty
set_of_a_complex_fi = refl

-- removefimath(1, 1), and of a number
remove_of_two : maker_met built_in.RemoveFimath (n (pos 1) ∷ n (pos 1) ∷ []) ≡ counted 2 1
unfolding bind tested is_supported ruled asked removefimath_asked element_types takes
remove_of_two = refl

remove_of_a_number : maker_met built_in.RemoveFimath (n (pos 1) ∷ []) ≡ excluded_argument
unfolding bind tested is_supported ruled asked removefimath_asked element_types takes remove_asked constant_of wanted_node single_ty
remove_of_a_number = refl

-- ---- cast

-- cast(k, 'like'), and then an index and a text
cast_of_two : maker_met built_in.Cast (plain index ∷ plain like ∷ []) ≡ counted 2 3
unfolding bind tested is_supported ruled asked cast_asked element_types takes
cast_of_two = refl

cast_of_an_index : maker_met built_in.Cast (plain index ∷ plain like ∷ plain a ∷ []) ≡ excluded_argument
unfolding bind tested is_supported ruled asked cast_asked element_types takes like_asked constant_of wanted_node element_of checked.choose is_numeric value_of
cast_of_an_index = refl

cast_unlike : maker_met built_in.Cast (plain a ∷ plain (text (codes "as")) ∷ plain a ∷ []) ≡ excluded_argument
unfolding bind tested is_supported ruled asked cast_asked element_types takes like_asked constant_of wanted_node element_of checked.choose
cast_unlike = refl

cast_like_a_number : maker_met built_in.Cast (plain a ∷ plain like ∷ n (pos 1) ∷ []) ≡ excluded_argument
unfolding bind tested is_supported ruled asked cast_asked element_types takes like_asked constant_of wanted_node element_of single_ty
cast_like_a_number = refl

-- a complex value to a real type before a word length of 65
cast_of_a_complex_fi : maker_ruled built_in.Cast (plain c ∷ plain like ∷ plain wide ∷ []) ≡ excluded_argument
unfolding bind tested is_supported ruled asked cast_asked element_types takes like_asked constant_of wanted_node element_of checked.choose is_numeric value_of takes_parts is_complex
cast_of_a_complex_fi = refl

-- a word length of 65 before a fraction length of 300
cast_to_a_long_word : maker_ruled built_in.Cast (plain a ∷ plain like ∷ plain wide ∷ []) ≡ Missing code.TooWide (Shows (Whole (pos 65)))
unfolding bind tested is_supported ruled asked cast_asked element_types takes like_asked constant_of wanted_node element_of checked.choose is_numeric value_of takes_parts is_complex built checked.bind limits_checked limited
cast_to_a_long_word = refl

-- complex like the fi
cast_to_a_complex_fi : maker_ruled built_in.Cast (word_true ∷ plain like ∷ plain c ∷ []) ≡ Fine (FiNode u8 None true scalar)
unfolding bind tested is_supported ruled asked cast_asked element_types takes like_asked constant_of wanted_node element_of checked.choose is_numeric value_of takes_parts is_complex built checked.bind limits_checked limited built_node is_complex_call first_ty
cast_to_a_complex_fi = refl

-- ---- abs

-- a complex fi before how many there are
abs_of_a_complex_fi : maker_met built_in.Abs (plain c ∷ plain c ∷ []) ≡ Missing code.Unsupported (Shows Itself)
unfolding bind tested is_supported is_complex_fi
abs_of_a_complex_fi = refl

-- how many before what they are
abs_of_two : maker_met built_in.Abs (n (pos 1) ∷ n (pos 1) ∷ []) ≡ counted 2 1
unfolding bind tested is_supported is_complex_fi ruled asked abs_asked element_types takes
abs_of_two = refl

abs_of_a_number : maker_met built_in.Abs (n (pos 1) ∷ []) ≡ excluded_argument
unfolding bind tested is_supported is_complex_fi ruled asked abs_asked element_types takes sign_asked constant_of wanted_node single_ty
abs_of_a_number = refl

abs_of_a_truth : maker_met built_in.Abs (plain truth ∷ []) ≡ excluded_argument
unfolding bind tested is_supported is_complex_fi ruled asked abs_asked element_types takes sign_asked constant_of wanted_node element_of
abs_of_a_truth = refl

abs_of_an_index : maker_met built_in.Abs (plain index ∷ []) ≡ excluded_argument
unfolding bind tested is_supported is_complex_fi ruled asked abs_asked element_types takes sign_asked constant_of wanted_node element_of
abs_of_an_index = refl

-- ---- zeros and ones

-- zeros(), and with five texts: how many there are before what they are
no_size : filled_met [] ≡ counted 0 1
unfolding filled_met
no_size = refl

many_sizes : filled_met (like ∷ like ∷ like ∷ like ∷ like ∷ []) ≡ counted 5 4
unfolding filled_met
many_sizes = refl

-- a text, or a number that isn't whole, before a fi that is no constant
text_size : filled_met (a ∷ like ∷ []) ≡ excluded_argument
unfolding filled_met bind tested may_size
text_size = refl

half_size : filled_met (a ∷ half ∷ []) ≡ excluded_argument
unfolding filled_met bind tested may_size whole_constant and_then where_so whole_of is_exact_at
half_size = refl

-- three numbers, another text, and like what is no fi, before a fi that is no constant
three_sizes : filled_met (a ∷ number (pos 2) ∷ number (pos 3) ∷ []) ≡ excluded_argument
unfolding filled_met bind tested is_like
three_sizes = refl

unlike_sizes : filled_met (a ∷ text (codes "as") ∷ a ∷ []) ≡ excluded_argument
unfolding filled_met bind tested is_like
unlike_sizes = refl

like_a_number : filled_met (a ∷ like ∷ number (pos 3) ∷ []) ≡ excluded_argument
unfolding filled_met bind tested is_like is_fi
like_a_number = refl

-- a fi, an index, a logical and a number below 1 before 5,000 elements
fi_size : filled_met (a ∷ number (pos 5000) ∷ []) ≡ Missing code.DynamicSize (Shows Itself)
unfolding filled_met bind tested may_size whole_constant and_then where_so whole_of is_exact_at needed natural known
fi_size = refl

index_size : filled_met (number (pos 5000) ∷ index ∷ []) ≡ Missing code.DynamicSize (Shows Itself)
unfolding filled_met bind tested may_size whole_constant and_then where_so whole_of is_exact_at needed natural known stored_at
index_size = refl

truth_size : filled_met (truth ∷ number (pos 5000) ∷ []) ≡ Missing code.DynamicSize (Shows Itself)
unfolding filled_met bind tested may_size whole_constant and_then where_so whole_of is_exact_at needed natural known
truth_size = refl

no_rows : filled_met (number (pos 0) ∷ number (pos 5000) ∷ []) ≡ Missing code.DynamicSize (Shows Itself)
unfolding filled_met bind tested may_size whole_constant and_then where_so whole_of is_exact_at needed natural known stored_at
no_rows = refl

fewer_than_no_rows : filled_met (number (negsuc 0) ∷ number (pos 5000) ∷ []) ≡ Missing code.DynamicSize (Shows Itself)
unfolding filled_met bind tested may_size whole_constant and_then where_so whole_of is_exact_at needed natural known stored_at
fewer_than_no_rows = refl

-- 4,225 elements before a word length of 65
large : filled_ruled nought (number (pos 65) ∷ like ∷ wide ∷ []) ≡ Missing code.Limit (Most 4096)
unfolding bind filled_met tested is_like is_fi may_size whole_constant and_then where_so whole_of is_exact_at needed natural known stored_at
large = refl

like_a_long_word : filled_ruled nought (number (pos 2) ∷ number (pos 3) ∷ like ∷ wide ∷ []) ≡ Missing code.TooWide (Shows (Whole (pos 65)))
unfolding bind filled_met tested is_like is_fi may_size whole_constant and_then where_so whole_of is_exact_at needed natural known stored_at filled_worked is_supported ruled asked cast_asked element_types takes like_asked constant_of wanted_node element_of checked.choose is_numeric value_of takes_parts is_complex built checked.bind limits_checked limited
like_a_long_word = refl

like_a_complex_fi : filled_ruled nought (number (pos 2) ∷ number (pos 3) ∷ like ∷ c ∷ []) ≡ Fine (FiNode u8 None true (record { rows = 2; columns = 3 }))
unfolding bind filled_met tested is_like is_fi may_size whole_constant and_then where_so whole_of is_exact_at needed natural known stored_at filled_worked is_supported ruled asked cast_asked element_types takes like_asked constant_of wanted_node element_of checked.choose is_numeric value_of takes_parts is_complex built checked.bind limits_checked limited built_node is_complex_call first_ty
like_a_complex_fi = refl

-- ---- calls by name, and `:` as an argument

-- abs(:, :), and then abs(:)
counted_colons : call_met (codes "abs") (None ∷ None ∷ []) ≡ counted 2 1
unfolding items_met all_of and_then excluded either_met built_in_named named bind tested is_supported is_complex_fi stand_in ruled asked abs_asked element_types takes is_told_before
counted_colons = refl

one_colon : call_met (codes "abs") (None ∷ []) ≡ excluded_argument
unfolding items_met all_of and_then excluded either_met built_in_named named bind tested is_supported is_complex_fi stand_in ruled asked abs_asked element_types takes sign_asked constant_of wanted_node element_of is_told_before
one_colon = refl

size_colon : call_met (codes "zeros") (Some (plain a) ∷ None ∷ []) ≡ excluded_argument
unfolding items_met all_of and_then excluded either_met built_in_named named function_of function_call_met bind filled_met function_types tested may_size wanted_node stand_in is_told_before
size_colon = refl

-- the word true is the extent 1, and a logical is none
word_size : call_ruled (codes "ones") (Some word_true ∷ []) ≡ Fine (filled_node one scalar)
unfolding items_met all_of and_then either_met built_in_named named function_of function_call_met bind filled_met function_types tested may_size wanted_node whole_constant where_so whole_of is_exact_at needed natural known stored_at filled_worked call_worked
word_size = refl

logical_size : call_met (codes "ones") (Some (plain truth) ∷ []) ≡ Missing code.DynamicSize (Shows Itself)
unfolding items_met all_of and_then either_met built_in_named named function_of function_call_met bind filled_met function_types tested may_size wanted_node needed natural known
logical_size = refl

-- a name that is no function's
unknown : call_met (codes "nothing") (None ∷ []) ≡ Missing code.UnknownName (Shows Itself)
unfolding items_met all_of and_then excluded either_met built_in_named named function_of is_told_before
unknown = refl
