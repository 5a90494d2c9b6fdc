-- The walk over expressions: parts go before their node, from left to right; the first missing condition refuses the source.
use Rattle.std.specs.Prelude.{ℕ, zero, suc, ◌+◌, Bool, true, false, ◌||◌, ◌++◌, if◌then◌else◌, List, [], ◌∷◌, codes, Option, Some, None}
use Rattle.fic_base.specs.declared.code.Code.TheVariants as code
use Rattle.fic_base.specs.declared.place.Place.{Place}
use Rattle.mat_ast.specs.declared.tree.BinOp.{BinOp}
use Rattle.mat_ast.specs.Tree.{Exp, Number, Words, Name, Apply, End, Unary, Binary, Post, Range, RangeBy, Paren, Matrix, Args, NoArgs, Whole, Item, Row, RowEnd, Cell, Rows, NoRows, RowOn}
use Rattle.num_type.specs.Constants.{Exact}
use Rattle.const_fold.specs.OperatorTexts.{operator_text}
use Rattle.const_rules.specs.LiteralValues.{literal_of}
use Rattle.fi_rules.specs.Value.{scalar}
use Rattle.fi_values.specs.Logicals.{deciding}
use Rattle.fi_values.specs.Numbers.{nought, whole_value}
use Rattle.fi_values.specs.Subscripts.{extent}
use Rattle.fi_meaning.specs.Expressions.{is_listed, args_count, site_of}
use Rattle.node_rules.specs.Arguments.{ArgumentTy}
use Rattle.node_rules.specs.Brackets.{bracket_ruled}
use Rattle.node_rules.specs.Logicals.{skip_ruled}
use Rattle.node_rules.specs.Ranges.{range_ruled}
use Rattle.node_rules.specs.Signs.{sign_ruled}
use Rattle.node_rules.specs.Subscripts.{read_ruled}
use Rattle.node_rules.specs.Texts.{sign_text, mark_text}
use Rattle.node_rules.specs.Transposes.{post_ruled}
use Rattle.node_rules.specs.Types.{NodeTy, NumberNode, TextNode, ty_of, shape_of}
use Rattle.walk_scope.specs.Told.{Told, Passes, Refuses, ◌>>=◌, when◌then◌else◌}
use Rattle.walk_scope.specs.Rules.{around_pair, around_one}
use Rattle.typed_ir.specs.Tree.{Slot, TExp, TNumber, TWords, TRead, TSelect, TBuiltin, TCall, TEnd, TUnary, TBinary, TPost, TRange, TRangeBy, TParen, TMatrix, TArgs, TNoArgs, TAll, TItem, TItems, TNone, TOne, TRows, TNoRows, TRowOn, TFun, Function}
use Rattle.typed_ir.specs.Parts.{type_of, outputs_of}
use Rattle.source_typing.specs.Calls.{Given, nothing_given, word_in, call_pending}
use Rattle.source_typing.specs.Counts.{Counts, counted, elements_in, nested}
use Rattle.source_typing.specs.Pending.{Typed, node, node_by, pair_pending, settled}
use Rattle.source_typing.specs.Setting.{Setting, deeper}
use Rattle.source_typing.specs.States.{State, type_of_name, readable}

-- ---- what `end` means

pub data Ends : Type 0 where
  -- no variable is round it
  Nowhere : Ends
  -- the innermost variable round it has no type
  Untyped : List ℕ → Ends
  Extent : ℕ → Ends

-- in subscript number k, from 0, of so many, of a variable
unfoldable pub ends_in : List ℕ → Option NodeTy → ℕ → ℕ → Ends
ends_in name None k many = Untyped name
ends_in name (Some t) k many = Extent (extent (shape_of t) k many)

-- ---- leaves

unfoldable pub literal_type : Bool → Exact → NodeTy
literal_type true c = NumberNode scalar (nought ∷ []) (Some (c ∷ []))
literal_type false c = NumberNode scalar (c ∷ []) None

unfoldable pub literal_told : Place → List ℕ → Option Exact → Told Exact
literal_told at text None = Refuses code.LiteralInexact at text
literal_told at text (Some c) = Passes c

-- the type of a variable that is read
unfoldable pub known : Place → List ℕ → Option NodeTy → Told NodeTy
known at name None = Refuses code.NotAssigned at name
known at name (Some t) = Passes t

abbrev pub variable : Place → List ℕ → State → Told NodeTy
variable at name st = known at name (readable st name)

unfoldable pub end_typed : Place → Ends → Counts → Told Typed
end_typed at Nowhere c = Refuses code.BadArgument at (codes "end")
end_typed at (Untyped name) c = Refuses code.NotAssigned at name
end_typed at (Extent n) c = node at (ty_of (whole_value n)) (λ t. TEnd at t) c

-- ---- operators with two operands

-- the right side of an operator that skips is nested in it
unfoldable pub at_right : Option Bool → Setting → Setting
at_right None cx = cx
at_right (Some b) cx = deeper cx

unfoldable pub pair_typed : Option Bool → Place → BinOp → Exp → Exp → Setting → TExp → TExp → Counts → Told Typed
pair_typed None at o a b cx x y c =
    node_by at (around_pair (operator_text o) a b) (pair_pending o (type_of x) (type_of y)) (λ t. TBinary at t o x y) c
pair_typed (Some skips) at o a b cx x y c =
    node_by at (around_one (operator_text o)) (settled (skip_ruled (type_of x) (type_of y))) (λ t. TBinary at t o x y) c
    >>= (λ r. nested at cx.nesting r)

-- ---- calls

-- the elements of the outputs that are asked for
abbrev pub elements_given : ℕ → List Slot → ℕ
elements_given zero slots = 0
elements_given (suc n) [] = 0
elements_given (suc n) (s ∷ slots) = elements_in (shape_of s.ty) + elements_given n slots

-- the type of the first output; there is one
abbrev pub first_type : List Slot → NodeTy
first_type [] = TextNode []
first_type (s ∷ slots) = s.ty

-- a function of the file is counted behind its outputs; it isn't called in the condition of a `while`
abbrev pub file_call_typed : Setting → Place → List ℕ → Given → ℕ → Told Typed
file_call_typed cx at name g wanted =
    when cx.in_while then Refuses code.Unsupported at name
    else (cx.call at name g wanted cx.nesting >>= (λ k. counted at (elements_given wanted (outputs_of k.callee)) k.counts
    >>= (λ n. Passes (record { exp = TCall at (first_type (outputs_of k.callee)) k.callee g.items wanted; counts = n }))))

abbrev pub called : Setting → Place → List ℕ → Given → ℕ → Told Typed
called cx at name g wanted =
    when is_listed name cx.functions then file_call_typed cx at name g wanted
    else node_by at (around_one name) (call_pending name g wanted) (λ t. TBuiltin at t name g.items) g.counts

-- ---- parts, each with the counts behind it

pub record TypedArgs : Type 0 where
  pub args : TArgs
  -- none for `:`
  pub types : List (Option NodeTy)
  pub counts : Counts

pub record TypedRow : Type 0 where
  pub items : TItems
  pub types : List NodeTy
  pub counts : Counts

pub record TypedRows : Type 0 where
  pub rows : TRows
  pub types : List (List NodeTy)
  pub counts : Counts

-- `:` before other arguments
abbrev pub colon_given : Given → Given
colon_given g = record g { types = None ∷ g.types }

abbrev pub item_given : TExp → Option Bool → Given → Given
item_given x word g = record g { items = TOne x g.items; types = Some (record { ty = type_of x; word = word }) ∷ g.types }

-- a subscripted read of a variable, behind its subscripts
abbrev pub select_typed : Place → List ℕ → ℕ → State → TypedArgs → Told Typed
select_typed at name site st s =
    variable at name st >>= (λ t. node_by at (around_one name) (settled (read_ruled t s.types)) (λ u. TSelect at u name site s.args) s.counts)

-- the step of a range where none is written
abbrev pub step_of_one : NodeTy
step_of_one = ty_of (whole_value 1)

abbrev mutual
  pub typed : Exp → Setting → State → Ends → Counts → Told Typed
  typed (Number at text imaginary) cx st ends c =
      literal_told at text (literal_of text) >>= (λ x. node at (literal_type imaginary x) (λ t. TNumber at t text imaginary) c)
  typed (Words at text) cx st ends c = node at (TextNode text) (λ t. TWords at t text) c
  typed (Name at name) cx st ends c =
      when is_listed name cx.variables then (variable at name st >>= (λ t. node at t (λ t. TRead at t name) c)) else called cx at name (nothing_given c) 1
  typed (Apply at name opens args) cx st ends c =
      when is_listed name cx.variables
      then (subscripts_typed args cx st name 0 (args_count args) c >>= select_typed at name (site_of opens) st)
      else (arguments_typed args cx st ends c >>= (λ g. called cx at name g 1))
  typed (End at) cx st ends c = end_typed at ends c
  typed (Unary at sign e) cx st ends c =
      typed e cx st ends c >>= (λ x. node_by at (around_one (sign_text sign)) (settled (sign_ruled sign (type_of x.exp))) (λ t. TUnary at t sign x.exp) x.counts)
  typed (Binary at o a b) cx st ends c =
      typed a cx st ends c
      >>= (λ x. typed b (at_right (deciding o) cx) st ends x.counts >>= (λ y. pair_typed (deciding o) at o a b cx x.exp y.exp y.counts))
  typed (Post at mark e) cx st ends c =
      typed e cx st ends c >>= (λ x. node_by at (around_one (mark_text mark)) (settled (post_ruled mark (type_of x.exp))) (λ t. TPost at t mark x.exp) x.counts)
  typed (Range at first last) cx st ends c =
      typed first cx st ends c >>= (λ x. typed last cx st ends x.counts
      >>= (λ y. node_by at (around_one (codes ":")) (settled (range_ruled (type_of x.exp) step_of_one (type_of y.exp))) (λ t. TRange at t x.exp y.exp) y.counts))
  typed (RangeBy at first step last) cx st ends c =
      typed first cx st ends c >>= (λ x. typed step cx st ends x.counts >>= (λ s. typed last cx st ends s.counts
      >>= (λ y. node_by at (around_one (codes ":")) (settled (range_ruled (type_of x.exp) (type_of s.exp) (type_of y.exp))) (λ t. TRangeBy at t x.exp s.exp y.exp) y.counts)))
  typed (Paren at e) cx st ends c = typed e cx st ends c >>= (λ x. node at (type_of x.exp) (λ t. TParen at t x.exp) x.counts)
  typed (Matrix at rows) cx st ends c =
      rows_typed rows cx st ends c >>= (λ r. node_by at (around_one (codes "[")) (settled (bracket_ruled r.types)) (λ t. TMatrix at t r.rows) r.counts)

  -- the subscripts of a variable, from number k on
  pub subscripts_typed : Args → Setting → State → List ℕ → ℕ → ℕ → Counts → Told TypedArgs
  subscripts_typed NoArgs cx st name k many c = Passes (record { args = TNoArgs; types = []; counts = c })
  subscripts_typed (Whole more) cx st name k many c =
      subscripts_typed more cx st name (suc k) many c >>= (λ r. Passes (record { args = TAll r.args; types = None ∷ r.types; counts = r.counts }))
  subscripts_typed (Item e more) cx st name k many c =
      typed e cx st (ends_in name (type_of_name st name) k many) c >>= (λ x. subscripts_typed more cx st name (suc k) many x.counts
      >>= (λ r. Passes (record { args = TItem x.exp r.args; types = Some (type_of x.exp) ∷ r.types; counts = r.counts })))

  pub arguments_typed : Args → Setting → State → Ends → Counts → Told Given
  arguments_typed NoArgs cx st ends c = Passes (nothing_given c)
  arguments_typed (Whole more) cx st ends c = arguments_typed more cx st ends c >>= (λ g. Passes (colon_given g))
  arguments_typed (Item e more) cx st ends c =
      typed e cx st ends c >>= (λ x. arguments_typed more cx st ends x.counts >>= (λ g. Passes (item_given x.exp (word_in cx.variables cx.functions e) g)))

  pub row_typed : Row → Setting → State → Ends → Counts → Told TypedRow
  row_typed RowEnd cx st ends c = Passes (record { items = TNone; types = []; counts = c })
  row_typed (Cell e more) cx st ends c =
      typed e cx st ends c >>= (λ x. row_typed more cx st ends x.counts
      >>= (λ r. Passes (record { items = TOne x.exp r.items; types = type_of x.exp ∷ r.types; counts = r.counts })))

  pub rows_typed : Rows → Setting → State → Ends → Counts → Told TypedRows
  rows_typed NoRows cx st ends c = Passes (record { rows = TNoRows; types = []; counts = c })
  rows_typed (RowOn r more) cx st ends c =
      row_typed r cx st ends c >>= (λ x. rows_typed more cx st ends x.counts
      >>= (λ rest. Passes (record { rows = TRowOn x.items rest.rows; types = x.types ∷ rest.types; counts = rest.counts })))
