-- Expressions have sound values.
use Rattle.std.proofs.Common.{refl, ℕ, suc, Bool, true, false, List, [], ◌∷◌}
use Rattle.std.specs.Prelude.{Option, Some, None}
use Rattle.std.specs.List.{AllByRecursion}
use Rattle.fic_base.specs.declared.place.Place.{Place}
use Rattle.mat_ast.specs.declared.tree.BinOp.{BinOp}
use Rattle.mat_ast.specs.Tree.{Exp, Number, Words, Name, Apply, End, Unary, Binary, Post, Range, RangeBy, Paren, Matrix, Args, NoArgs, Whole, Item, Row, RowEnd, Cell, Rows, NoRows, RowOn}
use Rattle.num_type.specs.Constants.{Exact}
use Rattle.fi_eval.specs.Outcome.{Got}
use Rattle.fi_rules.specs.Value.{Val}
use Rattle.fi_values.specs.Logicals.{deciding, scalar_truth}
use Rattle.fi_values.specs.Sound.{IsSound, Granted, grants, at_wrong}
use Rattle.fi_values.proofs.Holds.{Holds, holds, holds_then, holds_any, granted_then, granted_wrong, granted_if, granted_any}
use Rattle.fi_values.proofs.Joins.{bracket_sound}
use Rattle.fi_values.proofs.Logicals.{truth_sound}
use Rattle.fi_values.proofs.Queries.{whole_sound}
use Rattle.fi_values.proofs.Ranges.{ranged_sound}
use Rattle.fi_values.proofs.Selected.{read_sound}
use Rattle.fi_values.proofs.Selections.{IsItem, subscripts_sound}
use Rattle.fi_values.proofs.Sizes.{scalar_sized}
use Rattle.fi_values.proofs.Transposes.{transposed_sound}
use Rattle.fi_meaning.specs.Calls.{Argument}
use Rattle.fi_meaning.specs.Environment.{Env}
use Rattle.fi_meaning.specs.Expressions.{Context, is_listed, literal, only, called, behind_left, right_decides, args_count, site_of, value, subscript_values, arguments, row_values, rows_values}
use Rattle.fi_meaning.proofs.ShapesCalls.{IsArgument, values_sound}
use Rattle.fi_meaning.proofs.ShapesEnvironments.{AreSound, variable_sound}
use Rattle.fi_meaning.proofs.ShapesFunctions.{called_name_sound}
use Rattle.fi_meaning.proofs.ShapesOperators.{operator_sound, sign_sound}

literal_sound : (imaginary : Bool) (c : Exact) → IsSound (literal imaginary c)
unfolding literal
literal_sound true c = (scalar_sized, refl, refl)
literal_sound false c = (scalar_sized, refl)

only_sound : (at : Place) (vs : List Val) → AllByRecursion IsSound vs → Granted IsSound (only at vs)
unfolding only
only_sound at [] h = at_wrong at
only_sound at (v ∷ vs) h = grants v h.0

right_sound : (left : Option Bool) (y : Val) → Holds IsSound (right_decides left y)
unfolding right_decides
right_sound left y = holds_then (holds_any left) (λ t _. holds_then (holds_any (scalar_truth y)) (λ u _. holds _ (truth_sound u)))

behind_left_sound : (at : Place) (op : BinOp) (o : Option Bool) (x : Val) {right : Got Place Val} → IsSound x → Granted IsSound right → Granted IsSound (behind_left at op o x right)
unfolding behind_left
behind_left_sound at op None x h k = granted_then k (λ y g. granted_wrong at (operator_sound op x y h g))
behind_left_sound at op (Some b) x h k =
    granted_if _ (λ _. grants _ (truth_sound b)) (λ _. granted_then k (λ y _. granted_wrong at (right_sound (scalar_truth x) y)))

-- calls of the file's functions give sound values
abbrev pub CallsSound : (Place → List ℕ → List Val → ℕ → Got Place (List Val)) → Type 0
CallsSound call = (at : Place) (name : List ℕ) (vs : List Val) (wanted : ℕ) → AllByRecursion IsSound vs → Granted (AllByRecursion IsSound) (call at name vs wanted)

module _ (cx : Context) (calls : CallsSound cx.call) (env : Env) (sound : AreSound env) where
  called_sound : (at : Place) (name : List ℕ) (args : List Argument) → AllByRecursion IsArgument args → Granted IsSound (called cx at name args)
  called_sound at name args h =
      granted_if (is_listed name cx.functions)
      (λ _. granted_then (calls at name _ 1 (values_sound args h)) (λ vs k. only_sound at vs k))
      (λ _. called_name_sound at name args h)

  mutual
    pub value_sound : (e : Exp) (ends : Option ℕ) → Granted IsSound (value e cx env ends)
    value_sound (Number at text imaginary) ends = granted_then (granted_any _) (λ c _. grants _ (literal_sound imaginary c))
    value_sound (Words at text) ends = grants _ tt
    value_sound (Name at name) ends = granted_if (is_listed name cx.variables) (λ _. variable_sound env at name sound) (λ _. called_sound at name [] tt)
    value_sound (Apply at name opens args) ends =
        granted_if (is_listed name cx.variables)
        (λ _. granted_then (subscripts_granted args at (env name) 0 (args_count args)) (λ vs h.
        granted_then (variable_sound env at name sound) (λ v k.
        granted_then (granted_wrong at (subscripts_sound vs h)) (λ subs g. read_sound at (site_of opens) v subs k g))))
        (λ _. granted_then (arguments_sound args at ends) (λ vs h. called_sound at name vs h))
    value_sound (End at) ends = granted_then (granted_any _) (λ n _. grants _ (whole_sound n))
    value_sound (Unary at sign e) ends = granted_then (value_sound e ends) (λ v h. granted_wrong at (sign_sound sign v h))
    value_sound (Binary at o a b) ends = granted_then (value_sound a ends) (λ x h. behind_left_sound at o (deciding o) x h (value_sound b ends))
    value_sound (Post at mark e) ends = granted_then (value_sound e ends) (λ v h. granted_wrong at (transposed_sound mark v h))
    value_sound (Range at first last) ends =
        granted_then (value_sound first ends) (λ x _. granted_then (value_sound last ends) (λ y _. granted_wrong at (ranged_sound x _ y)))
    value_sound (RangeBy at first step last) ends =
        granted_then (value_sound first ends) (λ x _. granted_then (value_sound step ends) (λ s _.
        granted_then (value_sound last ends) (λ y _. granted_wrong at (ranged_sound x s y))))
    value_sound (Paren at e) ends = value_sound e ends
    value_sound (Matrix at rows) ends = granted_then (rows_sound rows ends) (λ vs h. granted_wrong at (bracket_sound vs h))

    pub subscripts_granted : (args : Args) (at : Place) (v : Option Val) (k many : ℕ) → Granted (AllByRecursion IsItem) (subscript_values args cx env at v k many)
    subscripts_granted NoArgs at v k many = grants _ tt
    subscripts_granted (Whole more) at v k many = granted_then (subscripts_granted more at v (suc k) many) (λ vs h. grants _ (tt, h))
    subscripts_granted (Item e more) at v k many =
        granted_then (value_sound e _) (λ x g. granted_then (subscripts_granted more at v (suc k) many) (λ vs h. grants _ (g, h)))

    pub arguments_sound : (args : Args) (at : Place) (ends : Option ℕ) → Granted (AllByRecursion IsArgument) (arguments args cx env at ends)
    arguments_sound NoArgs at ends = grants _ tt
    arguments_sound (Whole more) at ends = granted_then (arguments_sound more at ends) (λ vs h. at_wrong at)
    arguments_sound (Item e more) at ends = granted_then (value_sound e ends) (λ v g. granted_then (arguments_sound more at ends) (λ vs h. grants _ (g, h)))

    row_sound : (r : Row) (ends : Option ℕ) → Granted (AllByRecursion IsSound) (row_values r cx env ends)
    row_sound RowEnd ends = grants _ tt
    row_sound (Cell e more) ends = granted_then (value_sound e ends) (λ v g. granted_then (row_sound more ends) (λ vs h. grants _ (g, h)))

    rows_sound : (rows : Rows) (ends : Option ℕ) → Granted (AllByRecursion (AllByRecursion IsSound)) (rows_values rows cx env ends)
    rows_sound NoRows ends = grants _ tt
    rows_sound (RowOn r more) ends = granted_then (row_sound r ends) (λ vs g. granted_then (rows_sound more ends) (λ rest h. grants _ (g, h)))
