-- What the walk passes is within the limits.
use Rattle.std.proofs.Common.{◌≡◌, ℕ, zero, suc, Bool, true, false, List, [], ◌∷◌, length, Option, Some, None}
use Rattle.fic_base.specs.declared.place.Place.{Place}
use Rattle.mat_ast.specs.declared.tree.BinOp.{BinOp}
use Rattle.mat_ast.specs.declared.tree.Ident.{Ident}
use Rattle.mat_ast.specs.Tree.{Exp, Number, Words, Name, Apply, End, Unary, Binary, Post, Range, RangeBy, Paren, Matrix, Args, NoArgs, Whole, Item, Row, RowEnd, Cell, Rows, NoRows, RowOn, Sta, Assign, Store, Multi, IfOnly, IfElse, ForEach, WhileTrue, BreakOff, GoOn, Arms, NoArms, Arm, Block, Done, Next, Fun}
use Rattle.fi_values.specs.Logicals.{deciding}
use Rattle.fi_values.specs.Numbers.{whole_value}
use Rattle.node_rules.specs.Types.{NodeTy, TextNode, ty_of}
use Rattle.typed_ir.specs.Tree.{TExp, TNumber, TWords, TRead, TEnd, TParen}
use Rattle.typed_ir.specs.Parts.{type_of}
use Rattle.walk_scope.specs.Told.{Told, Passes, Refuses}
use Rattle.source_typing.specs.Calls.{Given, nothing_given}
use Rattle.source_typing.specs.Counts.{Counts}
use Rattle.source_typing.specs.Expressions.{literal_type, Ends, Nowhere, Untyped, Extent, TypedArgs, TypedRow, TypedRows, typed, subscripts_typed, arguments_typed, row_typed, rows_typed, called, file_call_typed, pair_typed, select_typed, end_typed, at_right}
use Rattle.source_typing.specs.Pending.{Typed}
use Rattle.source_typing.specs.Setting.{Called, FileCall, Setting}
use Rattle.source_typing.specs.States.{State}
use Rattle.source_typing.specs.Within.{IsWithin}
use Rattle.source_typing.proofs.Passing.{Passing, goes_on, after_any, either}
use Rattle.source_typing.proofs.Counted.{TypedWithin, counted_within, node_within, node_by_within, nested_within}

abbrev pub CalledWithin : Called → Type 0
CalledWithin k = IsWithin k.counts

abbrev pub GivenWithin : Given → Type 0
GivenWithin g = IsWithin g.counts

-- calls of functions of the file keep within the limits
abbrev pub CallsWithin : FileCall → Type 0
CallsWithin call = (at : Place) (name : List ℕ) (g : Given) (wanted nesting : ℕ) → IsWithin g.counts → Passing CalledWithin (call at name g wanted nesting)

abbrev pub ArgsWithin : TypedArgs → Type 0
ArgsWithin s = IsWithin s.counts

abbrev pub RowWithin : TypedRow → Type 0
RowWithin r = IsWithin r.counts

abbrev pub RowsWithin : TypedRows → Type 0
RowsWithin r = IsWithin r.counts

-- ---- nodes

end_within : (at : Place) (ends : Ends) (c : Counts) → IsWithin c → Passing TypedWithin (end_typed at ends c)
unfolding end_typed
end_within at Nowhere c h = tt
end_within at (Untyped name) c h = tt
end_within at (Extent n) c h = node_within at (ty_of (whole_value n)) (λ t. TEnd at t) c h

pair_within : (skips : Option Bool) (at : Place) (o : BinOp) (a b : Exp) (cx : Setting) (x y : TExp) (c : Counts) → IsWithin c → Passing TypedWithin (pair_typed skips at o a b cx x y c)
unfolding pair_typed
pair_within None at o a b cx x y c h = node_by_within at _ _ _ c h
pair_within (Some skips) at o a b cx x y c h = goes_on TypedWithin TypedWithin _ _ (node_by_within at _ _ _ c h) (λ r k. nested_within TypedWithin at cx.nesting r k)

file_call_within : (cx : Setting) → CallsWithin cx.call → (at : Place) (name : List ℕ) (g : Given) (wanted : ℕ) → IsWithin g.counts → Passing TypedWithin (file_call_typed cx at name g wanted)
file_call_within cx calls at name g wanted h =
    either TypedWithin cx.in_while (Refuses _ at name) _ tt
    (goes_on CalledWithin TypedWithin (cx.call at name g wanted cx.nesting) _ (calls at name g wanted cx.nesting h)
    (λ k w. goes_on IsWithin TypedWithin _ _ (counted_within at _ k.counts w) (λ n v. v)))

pub called_within : (cx : Setting) → CallsWithin cx.call → (at : Place) (name : List ℕ) (g : Given) (wanted : ℕ) → IsWithin g.counts → Passing TypedWithin (called cx at name g wanted)
called_within cx calls at name g wanted h =
    either TypedWithin _ (file_call_typed cx at name g wanted) _ (file_call_within cx calls at name g wanted h) (node_by_within at _ _ _ g.counts h)

select_within : (at : Place) (name : List ℕ) (site : ℕ) (st : State) (s : TypedArgs) → IsWithin s.counts → Passing TypedWithin (select_typed at name site st s)
select_within at name site st s h = after_any TypedWithin _ _ (λ t. node_by_within at _ _ _ s.counts h)

-- the right side of an operator has the calls of the whole
right_calls : (skips : Option Bool) (cx : Setting) → CallsWithin cx.call → CallsWithin (at_right skips cx).call
unfolding at_right
right_calls None cx calls = calls
right_calls (Some b) cx calls = calls

-- ---- expressions

mutual
  pub typed_within : (e : Exp) (cx : Setting) → CallsWithin cx.call → (st : State) (ends : Ends) (c : Counts) → IsWithin c → Passing TypedWithin (typed e cx st ends c)
  typed_within (Number at text imaginary) cx calls st ends c h = after_any TypedWithin _ _ (λ x. node_within at (literal_type imaginary x) (λ t. TNumber at t text imaginary) c h)
  typed_within (Words at text) cx calls st ends c h = node_within at (TextNode text) (λ t. TWords at t text) c h
  typed_within (Name at name) cx calls st ends c h =
      either TypedWithin _ _ _ (after_any TypedWithin _ _ (λ t. node_within at t (λ t. TRead at t name) c h)) (called_within cx calls at name (nothing_given c) 1 h)
  typed_within (Apply at name opens args) cx calls st ends c h =
      either TypedWithin _ _ _
      (goes_on ArgsWithin TypedWithin _ _ (subscripts_within args cx calls st name 0 _ c h) (λ s k. select_within at name _ st s k))
      (goes_on GivenWithin TypedWithin _ _ (arguments_within args cx calls st ends c h) (λ g k. called_within cx calls at name g 1 k))
  typed_within (End at) cx calls st ends c h = end_within at ends c h
  typed_within (Unary at sign e) cx calls st ends c h = goes_on TypedWithin TypedWithin _ _ (typed_within e cx calls st ends c h) (λ x k. node_by_within at _ _ _ x.counts k)
  typed_within (Binary at o a b) cx calls st ends c h =
      goes_on TypedWithin TypedWithin _ _ (typed_within a cx calls st ends c h)
      (λ x k. goes_on TypedWithin TypedWithin _ _ (typed_within b (at_right (deciding o) cx) (right_calls (deciding o) cx calls) st ends x.counts k)
      (λ y l. pair_within (deciding o) at o a b cx x.exp y.exp y.counts l))
  typed_within (Post at mark e) cx calls st ends c h = goes_on TypedWithin TypedWithin _ _ (typed_within e cx calls st ends c h) (λ x k. node_by_within at _ _ _ x.counts k)
  typed_within (Range at first last) cx calls st ends c h =
      goes_on TypedWithin TypedWithin _ _ (typed_within first cx calls st ends c h)
      (λ x k. goes_on TypedWithin TypedWithin _ _ (typed_within last cx calls st ends x.counts k) (λ y l. node_by_within at _ _ _ y.counts l))
  typed_within (RangeBy at first step last) cx calls st ends c h =
      goes_on TypedWithin TypedWithin _ _ (typed_within first cx calls st ends c h)
      (λ x k. goes_on TypedWithin TypedWithin _ _ (typed_within step cx calls st ends x.counts k)
      (λ s l. goes_on TypedWithin TypedWithin _ _ (typed_within last cx calls st ends s.counts l) (λ y m. node_by_within at _ _ _ y.counts m)))
  typed_within (Paren at e) cx calls st ends c h = goes_on TypedWithin TypedWithin _ _ (typed_within e cx calls st ends c h) (λ x k. node_within at (type_of x.exp) (λ t. TParen at t x.exp) x.counts k)
  typed_within (Matrix at rows) cx calls st ends c h = goes_on RowsWithin TypedWithin _ _ (rows_within rows cx calls st ends c h) (λ r k. node_by_within at _ _ _ r.counts k)

  pub subscripts_within : (args : Args) (cx : Setting) → CallsWithin cx.call → (st : State) (name : List ℕ) (k many : ℕ) (c : Counts) → IsWithin c → Passing ArgsWithin (subscripts_typed args cx st name k many c)
  subscripts_within NoArgs cx calls st name k many c h = h
  subscripts_within (Whole more) cx calls st name k many c h = goes_on ArgsWithin ArgsWithin _ _ (subscripts_within more cx calls st name (suc k) many c h) (λ r w. w)
  subscripts_within (Item e more) cx calls st name k many c h =
      goes_on TypedWithin ArgsWithin _ _ (typed_within e cx calls st _ c h)
      (λ x w. goes_on ArgsWithin ArgsWithin _ _ (subscripts_within more cx calls st name (suc k) many x.counts w) (λ r v. v))

  pub arguments_within : (args : Args) (cx : Setting) → CallsWithin cx.call → (st : State) (ends : Ends) (c : Counts) → IsWithin c → Passing GivenWithin (arguments_typed args cx st ends c)
  arguments_within NoArgs cx calls st ends c h = h
  arguments_within (Whole more) cx calls st ends c h = goes_on GivenWithin GivenWithin _ _ (arguments_within more cx calls st ends c h) (λ g w. w)
  arguments_within (Item e more) cx calls st ends c h =
      goes_on TypedWithin GivenWithin _ _ (typed_within e cx calls st ends c h)
      (λ x w. goes_on GivenWithin GivenWithin _ _ (arguments_within more cx calls st ends x.counts w) (λ g v. v))

  pub row_within : (r : Row) (cx : Setting) → CallsWithin cx.call → (st : State) (ends : Ends) (c : Counts) → IsWithin c → Passing RowWithin (row_typed r cx st ends c)
  row_within RowEnd cx calls st ends c h = h
  row_within (Cell e more) cx calls st ends c h =
      goes_on TypedWithin RowWithin _ _ (typed_within e cx calls st ends c h)
      (λ x w. goes_on RowWithin RowWithin _ _ (row_within more cx calls st ends x.counts w) (λ r v. v))

  pub rows_within : (rows : Rows) (cx : Setting) → CallsWithin cx.call → (st : State) (ends : Ends) (c : Counts) → IsWithin c → Passing RowsWithin (rows_typed rows cx st ends c)
  rows_within NoRows cx calls st ends c h = h
  rows_within (RowOn r more) cx calls st ends c h =
      goes_on RowWithin RowsWithin _ _ (row_within r cx calls st ends c h)
      (λ x w. goes_on RowsWithin RowsWithin _ _ (rows_within more cx calls st ends x.counts w) (λ rest v. v))
