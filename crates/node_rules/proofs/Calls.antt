-- Calls of built-in functions by their names go by their rules.
use Rattle.std.proofs.Common.{◌≡◌, refl, sym, ap, subst, ◌∙◌, Bool, true, false, ℕ, List, map}
use Rattle.std.specs.Prelude.{Option, Some, None}
use Rattle.fic_base.specs.declared.place.Place.{Place}
use Rattle.fi_rules.specs.declared.built_ins.BuiltIn.{BuiltIn}
use Rattle.fi_rules.specs.Calls.{built_in_named}
use Rattle.fi_rules.specs.Options.{all_of}
use Rattle.fi_rules.specs.Value.{Val}
use Rattle.fi_eval.specs.Outcome.{or_wrong}
use Rattle.fi_meaning.specs.Calls.{Argument, takes, values_of, function_values, like_at_end, function_call, by_name, called_name}
use Rattle.fi_meaning.specs.Functions as functions
use Rattle.fi_meaning.specs.Functions.{Function, Filled, function_of}
use Rattle.node_rules.specs.Arguments.{ArgumentTy, argument_tys, element_types}
use Rattle.node_rules.specs.Built.{has_rule, function_met}
use Rattle.node_rules.specs.Calls.{NamedCall, Makes, Fills, Works, call_shape, function_call_met, function_call_value, either_met, either_value, name_met, argument_items, is_told_before, excluded, items_met, call_met, call_worked, call_ruled, number_values, built_in_value}
use Rattle.node_rules.specs.Filling.{filled_met}
use Rattle.node_rules.specs.Makers.{maker_met}
use Rattle.node_rules.specs.Ruled as rules
use Rattle.node_rules.specs.Ruled.{Ruled, Fine, Missing, fine, given}
use Rattle.node_rules.specs.Types.{NodeTy, ty_of, shape_of}
use Rattle.node_rules.proofs.Arguments.{function_types_are, all_arguments}
use Rattle.node_rules.proofs.Built.{function_law}
use Rattle.node_rules.proofs.Counted.{calling_shaped}
use Rattle.node_rules.proofs.Called.{called, by_types}
use Rattle.node_rules.proofs.Filling.{filled_or, filled_call_is, filled_law}
use Rattle.node_rules.proofs.Goes.{Goes, goes, stops, goes_given, goes_typed}
use Rattle.node_rules.proofs.Makers.{goes_as, maker_law}
use Rattle.node_rules.proofs.MakingShapes.{maker_shape, filled_shape}
use Rattle.node_rules.proofs.WordValues.{values_same}

-- ---- functions beside those of fi_rules

unfoldable function_or : Function → List Val → Option Val
function_or (Filled z) vs = filled_or z vs (like_at_end vs)
function_or f vs = functions.given f vs

function_call_is : (at : Place) (f : Function) (vs : List Val) → function_call at f vs ≡ or_wrong at (function_or f vs)
unfolding function_call function_or
function_call_is at (Filled z) vs = filled_call_is at z vs (like_at_end vs)
function_call_is at f vs = refl

-- what is kept between the two parts changes nothing
kept : {A : Type 0} {o : Option Val} (val : NodeTy → Val) (c : Ruled A) (f : A → NamedCall) → Goes val o (rules.bind c (λ x. call_worked (f x))) → Goes val o (rules.bind (rules.bind c (λ x. Fine (f x))) call_worked)
unfolding rules.bind
kept val (Fine x) f h = h
kept val (Missing code why) f h = h

-- the same value
goes_same : {o : Option Val} {c : Ruled NodeTy} (f g : NodeTy → Val) → Goes f o c → ((t : NodeTy) → c ≡ Fine t → f t ≡ g t) → Goes g o c
goes_same f g (goes t e) k = goes_as g t (f t) (sym (k t refl)) e
goes_same f g (stops code why) k = stops code why

function_call_law : (f : Function) (args : List Argument) → Goes (λ t. function_call_value f t (number_values (values_of args))) (function_or f (function_values f args)) (rules.bind (function_call_met f (map ty_of (function_values f args))) call_worked)
unfolding has_rule function_or function_call_value function_call_met call_worked
function_call_law (Filled z) args =
    kept _ (filled_met (map ty_of (function_values (Filled z) args))) (λ k. Fills z k) (filled_law z (function_values (Filled z) args))
function_call_law f args =
    kept _ (function_met f (map ty_of (function_values f args))) (λ m. Works m) (goes_same _ _ (function_law f (function_values f args) refl) (values_same f args))

-- ---- all of them

unfoldable either_or : Option BuiltIn → Option Function → List Argument → Option Val
either_or (Some b) f args = called b (element_types (takes b) (argument_tys args)) (values_of args)
either_or None (Some f) args = function_or f (function_values f args)
either_or None None args = None

by_name_is : (at : Place) (b : Option BuiltIn) (f : Option Function) (args : List Argument) → by_name at b f args ≡ or_wrong at (either_or b f args)
unfolding by_name either_or or_wrong
by_name_is at (Some b) f args = by_types at b args
by_name_is at None (Some f) args = function_call_is at f (function_values f args)
by_name_is at None None args = refl

either_law : (b : Option BuiltIn) (f : Option Function) (args : List Argument) → Goes (λ t. either_value b f t (values_of args)) (either_or b f args) (rules.bind (either_met b f (argument_tys args)) call_worked)
unfolding either_value either_or either_met call_worked rules.bind
either_law (Some b) f args = kept _ (maker_met b (argument_tys args)) (λ a. Makes b (argument_tys args) a) (maker_law b args)
either_law None (Some f) args =
    subst (λ ts. Goes (λ t. function_call_value f t (number_values (values_of args))) (function_or f (function_values f args)) (rules.bind (function_call_met f ts) call_worked)) (function_types_are f args) (function_call_law f args)
either_law None None args = stops _ _

-- ---- with no `:` among the arguments

items_are : (name : List ℕ) (args : List Argument) → call_met name (argument_items args) ≡ name_met name (argument_tys args)
unfolding items_met
items_are name args = ap (items_met name (argument_items args)) (all_arguments args)

call_law : (name : List ℕ) (args : List Argument) → Goes (λ t. built_in_value name t (values_of args)) (either_or (built_in_named name) (function_of name) args) (call_ruled name (argument_items args))
call_law name args =
    subst (λ c. Goes (λ t. built_in_value name t (values_of args)) (either_or (built_in_named name) (function_of name) args) (rules.bind c call_worked)) (sym (items_are name args)) (either_law (built_in_named name) (function_of name) args)

pub call_given : (at : Place) (name : List ℕ) (args : List Argument) → called_name at name args ≡ or_wrong at (given (call_ruled name (argument_items args)) (λ t. built_in_value name t (values_of args)))
call_given at name args = by_name_is at (built_in_named name) (function_of name) args ∙ ap (λ o. or_wrong at o) (goes_given _ (call_law name args))

pub call_typed : (name : List ℕ) (args : List Argument) (t : NodeTy) → call_ruled name (argument_items args) ≡ Fine t → ty_of (built_in_value name t (values_of args)) ≡ t
call_typed name args t e = goes_typed _ t (call_law name args) e

-- ---- with one

excluded_none : {A : Type 0} (c : Ruled A) → fine (excluded c) ≡ None
unfolding excluded fine
excluded_none (Fine x) = refl
excluded_none {A = A} (Missing code why) = of (is_told_before code) refl
  where
    of : (b : Bool) → is_told_before code ≡ b → fine (excluded {A = A} (Missing code why)) ≡ None
    of true e = rw e refl
    of false e = rw e refl

pub call_none : (name : List ℕ) (items : List (Option ArgumentTy)) → all_of items ≡ None → fine (call_met name items) ≡ None
unfolding items_met
call_none name items e = ap (λ o. fine (items_met name items o)) e ∙ excluded_none _

-- ---- the shape of the node

pub call_shaped : (m : NamedCall) (t : NodeTy) → call_worked m ≡ Fine t → shape_of t ≡ call_shape m
unfolding call_worked call_shape
call_shaped (Makes b args a) t e = maker_shape b args a t e
call_shaped (Fills z k) t e = filled_shape z k t e
call_shaped (Works m) t e = calling_shaped m t e
