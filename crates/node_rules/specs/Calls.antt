-- Calls of built-in functions by their names: the rule of each on the types of its arguments, in two parts with the counts between them, and its
-- value at the type of the node.
use Rattle.std.specs.Prelude.{ℕ, Bool, true, false, if◌then◌else◌, List, [], ◌∷◌, map, Option, Some, None}
use Rattle.fic_base.specs.declared.code.Code.{Code}
use Rattle.fic_base.specs.declared.code.Code.TheVariants as code
use Rattle.num_type.specs.Constants.{Exact}
use Rattle.fi_rules.specs.declared.built_ins.BuiltIn.{BuiltIn}
use Rattle.fi_rules.specs.Calls.{Asked, built_in_named}
use Rattle.fi_rules.specs.Checked.{Itself}
use Rattle.fi_rules.specs.Options.{all_of}
use Rattle.fi_rules.specs.Value.{Shape, Val}
use Rattle.fi_meaning.specs.Calls.{Argument, constant_value}
use Rattle.fi_meaning.specs.Functions.{Function, Filled, function_of}
use Rattle.node_rules.specs.Arguments.{ArgumentTy, plain, argument_ty, constant_node}
use Rattle.node_rules.specs.Built.{Calling, calling_shape, function_met, function_worked, function_value}
use Rattle.node_rules.specs.Filling.{Filling, filling_shape, filled_met, filled_worked, filled_value}
use Rattle.node_rules.specs.Makers.{making_shape, first_ty, maker_met, maker_worked, maker_value}
use Rattle.node_rules.specs.Ruled.{Ruled, Fine, Missing, Shows, ◌>>=◌}
use Rattle.node_rules.specs.Types.{NodeTy, TextNode, known}

-- what of a call is to be worked out behind the counts
pub data NamedCall : Type 0 where
  Makes : BuiltIn → List ArgumentTy → Asked → NamedCall
  Fills : Exact → Filling → NamedCall
  Works : Calling → NamedCall

-- the shape of its result
unfoldable pub call_shape : NamedCall → Shape
call_shape (Makes b args a) = making_shape a (first_ty args)
call_shape (Fills z k) = filling_shape k
call_shape (Works m) = calling_shape m

-- ---- functions beside those of fi_rules

-- the words are constants behind the first argument, and everywhere where arrays of one number are made
unfoldable pub function_types : Function → List ArgumentTy → List NodeTy
function_types (Filled z) args = map constant_node args
function_types f [] = []
function_types f (a ∷ more) = a.ty ∷ map constant_node more

unfoldable pub function_call_met : Function → List NodeTy → Ruled NamedCall
function_call_met (Filled z) ts = filled_met ts >>= (λ k. Fine (Fills z k))
function_call_met f ts = function_met f ts >>= (λ m. Fine (Works m))

unfoldable pub function_call_value : Function → NodeTy → List Val → Val
function_call_value (Filled z) t vs = filled_value z t
function_call_value f t vs = function_value f t vs

-- ---- all of them

-- another name is told here to be unknown: those that aren't supported, and divisions, are told before
unfoldable pub either_met : Option BuiltIn → Option Function → List ArgumentTy → Ruled NamedCall
either_met (Some b) f args = maker_met b args >>= (λ a. Fine (Makes b args a))
either_met None (Some f) args = function_call_met f (function_types f args)
either_met None None args = Missing code.UnknownName (Shows Itself)

-- behind the first argument a logical is a word, where there is a rule
unfoldable pub number_values : List Val → List Val
number_values [] = []
number_values (v ∷ more) = v ∷ map (λ w. constant_value w true) more

unfoldable pub either_value : Option BuiltIn → Option Function → NodeTy → List Val → Val
either_value (Some b) f t vs = maker_value b t vs
either_value None (Some f) t vs = function_call_value f t (number_values vs)
either_value None None t vs = known t

abbrev pub name_met : List ℕ → List ArgumentTy → Ruled NamedCall
name_met name args = either_met (built_in_named name) (function_of name) args

-- ---- `:` as an argument, for which none stands: no call takes it

abbrev pub argument_items : List Argument → List (Option ArgumentTy)
argument_items = map (λ (a : Argument). Some (argument_ty a))

-- something of the same number of arguments
unfoldable pub stand_in : Option ArgumentTy → ArgumentTy
stand_in None = plain (TextNode [])
stand_in (Some a) = a

-- the codes that are told before an argument that isn't taken
unfoldable pub is_told_before : Code → Bool
is_told_before code.UnknownName = true
is_told_before code.Unsupported = true
is_told_before code.ArgCount = true
is_told_before c = false

unfoldable pub excluded : {A : Type 0} → Ruled A → Ruled A
excluded (Fine x) = Missing code.BadArgument (Shows Itself)
excluded (Missing c why) = if is_told_before c then Missing c why else Missing code.BadArgument (Shows Itself)

unfoldable pub items_met : List ℕ → List (Option ArgumentTy) → Option (List ArgumentTy) → Ruled NamedCall
items_met name items None = excluded (name_met name (map stand_in items))
items_met name items (Some args) = name_met name args

-- ---- the two parts of the rule

-- before the node is counted
abbrev pub call_met : List ℕ → List (Option ArgumentTy) → Ruled NamedCall
call_met name items = items_met name items (all_of items)

-- behind the counts
unfoldable pub call_worked : NamedCall → Ruled NodeTy
call_worked (Makes b args a) = maker_worked b args a
call_worked (Fills z k) = filled_worked z k
call_worked (Works m) = function_worked m

-- the type of a call's node
abbrev pub call_ruled : List ℕ → List (Option ArgumentTy) → Ruled NodeTy
call_ruled name items = call_met name items >>= call_worked

-- the value of a call's node of this type, of the values of its arguments
abbrev pub built_in_value : List ℕ → NodeTy → List Val → Val
built_in_value name t vs = either_value (built_in_named name) (function_of name) t vs
