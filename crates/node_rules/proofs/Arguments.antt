-- The rules take of arguments what evaluation takes of their values.
use Rattle.std.proofs.Common.{◌≡◌, refl, ap, ◌∙◌, Bool, true, false, List, [], ◌∷◌, map}
use Rattle.std.specs.Prelude.{Some}
use Rattle.fi_rules.specs.Options.{and_then, ◌|>◌, all_of}
use Rattle.fi_rules.specs.Value.{Val, Fi, Logical}
use Rattle.fi_meaning.specs.Calls.{Argument, element_ty, single_ty, constant_ty, value_ty, constants, argument_types, constant_value, function_values}
use Rattle.fi_meaning.specs.Functions.{Function, Filled}
use Rattle.node_rules.specs.Arguments.{word_of, argument_ty, argument_tys, wanted_node, constant_node, element_of, constant_of, value_of, constants_of, element_types}
use Rattle.node_rules.specs.Calls.{function_types, argument_items}
use Rattle.node_rules.specs.Types.{ty_of}

pub element_is : (v : Val) → element_ty v ≡ element_of (ty_of v)
unfolding element_ty element_of ty_of
element_is (Fi t m s xs) = refl
element_is v = refl

value_is : (v : Val) → value_ty v ≡ value_of (ty_of v)
unfolding value_ty element_ty value_of element_of ty_of
value_is (Fi t m s xs) = refl
value_is v = refl

constant_is : (v : Val) (w : Bool) → constant_ty v w ≡ constant_of (wanted_node (word_of v w) (ty_of v))
unfolding constant_ty element_ty single_ty word_of wanted_node constant_of element_of ty_of
constant_is (Logical s (b ∷ [])) true = refl
constant_is (Logical s (b ∷ [])) false = refl
constant_is (Logical s []) w = refl
constant_is (Logical s (b ∷ c ∷ bs)) w = refl
constant_is v w = refl

constants_are : (args : List Argument) → constants args ≡ constants_of (argument_tys args)
constants_are [] = refl
constants_are (a ∷ more) =
    ap (λ u. u ∷ constants more) (constant_is a.value a.is_word) ∙ ap (λ us. constant_of (constant_node (argument_ty a)) ∷ us) (constants_are more)

pub types_are : (b : Bool) (args : List Argument) → argument_types b args ≡ element_types b (argument_tys args)
unfolding argument_types element_types
types_are true [] = refl
types_are true (a ∷ more) =
    ap (λ u. u ∷ constants more) (value_is a.value) ∙ ap (λ us. value_of (ty_of a.value) ∷ us) (constants_are more)
types_are false args = constants_are args

-- ---- of functions

number_is : (v : Val) (w : Bool) → ty_of (constant_value v w) ≡ wanted_node (word_of v w) (ty_of v)
unfolding constant_value word_of wanted_node ty_of
number_is (Logical s (b ∷ [])) true = refl
number_is (Logical s (b ∷ [])) false = refl
number_is (Logical s []) w = refl
number_is (Logical s (b ∷ c ∷ bs)) w = refl
number_is v w = refl

numbers_are : (args : List Argument) → map ty_of (map (λ (a : Argument). constant_value a.value a.is_word) args) ≡ map constant_node (argument_tys args)
numbers_are [] = refl
numbers_are (a ∷ more) =
    ap (λ t. t ∷ map ty_of (map (λ (b : Argument). constant_value b.value b.is_word) more)) (number_is a.value a.is_word)
    ∙ ap (λ ts. constant_node (argument_ty a) ∷ ts) (numbers_are more)

pub function_types_are : (f : Function) (args : List Argument) → map ty_of (function_values f args) ≡ function_types f (argument_tys args)
unfolding function_values function_types
function_types_are (Filled z) args = numbers_are args
function_types_are f [] = refl
function_types_are f (a ∷ more) = ap (λ ts. ty_of a.value ∷ ts) (numbers_are more)

-- ---- no `:` among them

pub all_arguments : (args : List Argument) → all_of (argument_items args) ≡ Some (argument_tys args)
unfolding all_of and_then
all_arguments [] = refl
all_arguments (a ∷ more) = ap (λ o. o |> (λ ts. Some (argument_ty a ∷ ts))) (all_arguments more)
