-- What it means that a typed tree is right: evaluation, which knows no types, has the same outcome.
use Rattle.std.specs.Prelude.{◌≡◌, ℕ, suc, List, [], ◌∷◌, map, take, Option, Some, None}
use Rattle.fic_base.specs.declared.place.Place.{Place}
use Rattle.mat_ast.specs.Tree.{Exp, Apply, Unary, Binary, Post, Range, RangeBy, Paren, Matrix, Args, NoArgs, Whole, Item, Row, RowEnd, Cell, Rows, NoRows, RowOn, Fun}
use Rattle.fi_rules.specs.Options.{◌|>◌}
use Rattle.fi_rules.specs.Value.{Val}
use Rattle.fi_eval.specs.Meaning.{place_of}
use Rattle.fi_eval.specs.Outcome.{Got, Gives, ◌>>=◌}
use Rattle.fi_values.specs.Reads.{shape_of}
use Rattle.fi_values.specs.Subscripts.{extent}
use Rattle.fi_meaning.specs.Environment.{Env}
use Rattle.fi_meaning.specs.Expressions as untyped
use Rattle.fi_meaning.specs.Expressions.{Context, args_count}
use Rattle.fi_meaning.specs.Meaning.{evaluated}
use Rattle.node_rules.specs.Agrees.{Agrees}
use Rattle.node_rules.specs.Types.{NodeTy, Holds}
use Rattle.typed_ir.specs.Tree.{Slot, TExp, TSelect, TBuiltin, TCall, TUnary, TBinary, TPost, TRange, TRangeBy, TParen, TMatrix, TArgs, TNoArgs, TAll, TItem, TItems, TNone, TOne, TRows, TNoRows, TRowOn, TFun, Function}
use Rattle.typed_ir.specs.Parts.{type_of, outputs_of}
use Rattle.typed_ir.specs.Meaning.{value, function_values}
use Rattle.source_typing.specs.Expressions.{Ends, Nowhere, Untyped, Extent}
use Rattle.source_typing.specs.States.{State, readable}

-- ---- environments

-- a value of the type is there
abbrev pub HasValue : NodeTy → Option Val → Type 0
HasValue t None = ⊥
HasValue t (Some v) = Holds t v

-- each name that may be read has a value of its type: an index is within its interval, and a constant has its value
pub record Fits (st : State) (env : Env) : Type 0 where
  pub held : (name : List ℕ) (t : NodeTy) → readable st name ≡ Some t → HasValue t (env name)

-- `end` is the extent that the walk says; a source in which it stands without a variable, or in one without a type, is refused
abbrev pub EndsFit : Ends → Option ℕ → Type 0
EndsFit Nowhere ends = Unit {0}
EndsFit (Untyped name) ends = Unit {0}
EndsFit (Extent n) ends = ends ≡ Some n

-- ---- nodes and calls

-- a node and its typed one have one outcome, and a value is of the node's type
abbrev pub NodeAgrees : Exp → Context → Option ℕ → TExp → ℕ → Env → Type 0
NodeAgrees e cx ends x n env = Agrees (Holds (type_of x)) (untyped.value e cx env ends) (value x n env)

-- a list of values, each of its type
abbrev pub AllHold : List NodeTy → List Val → Type 0
AllHold [] [] = Unit {0}
AllHold (t ∷ ts) (v ∷ vs) = Holds t v × AllHold ts vs
AllHold ts vs = ⊥

abbrev pub slot_types : List Slot → List NodeTy
slot_types = map (λ (s : Slot). s.ty)

-- a run of a function on arguments of the types of its inputs and its typed run have one outcome, with outputs of their types
abbrev pub RunAgrees : (List Val → Got Place (List Val)) → List NodeTy → TFun → ℕ → Type 0
RunAgrees run ts f n = (vs : List Val) → AllHold ts vs → Agrees (AllHold (slot_types (outputs_of f))) (run vs) (function_values f n vs)

-- ---- the boundary of one node: what its parts and its callee have to bring

-- what `end` means in subscript number k, from 0, of so many, of a variable with a value
abbrev pub ends_at : Env → List ℕ → ℕ → ℕ → Option ℕ
ends_at env name k many = env name |> (λ v. Some (extent (shape_of v) k many))

abbrev pub SubscriptsAgree : Args → TArgs → Context → List ℕ → ℕ → ℕ → ℕ → Env → Type 0
SubscriptsAgree NoArgs TNoArgs cx name k many n env = Unit {0}
SubscriptsAgree (Whole more) (TAll xs) cx name k many n env = SubscriptsAgree more xs cx name (suc k) many n env
SubscriptsAgree (Item e more) (TItem x xs) cx name k many n env =
    NodeAgrees e cx (ends_at env name k many) x n env × SubscriptsAgree more xs cx name (suc k) many n env
SubscriptsAgree args xs cx name k many n env = ⊥

abbrev pub ArgumentsAgree : Args → TItems → Context → Option ℕ → ℕ → Env → Type 0
ArgumentsAgree NoArgs TNone cx ends n env = Unit {0}
ArgumentsAgree (Item e more) (TOne x xs) cx ends n env = NodeAgrees e cx ends x n env × ArgumentsAgree more xs cx ends n env
ArgumentsAgree args xs cx ends n env = ⊥

abbrev pub RowAgrees : Row → TItems → Context → Option ℕ → ℕ → Env → Type 0
RowAgrees RowEnd TNone cx ends n env = Unit {0}
RowAgrees (Cell e more) (TOne x xs) cx ends n env = NodeAgrees e cx ends x n env × RowAgrees more xs cx ends n env
RowAgrees r xs cx ends n env = ⊥

abbrev pub RowsAgree : Rows → TRows → Context → Option ℕ → ℕ → Env → Type 0
RowsAgree NoRows TNoRows cx ends n env = Unit {0}
RowsAgree (RowOn r more) (TRowOn xs rest) cx ends n env = RowAgrees r xs cx ends n env × RowsAgree more rest cx ends n env
RowsAgree rows rest cx ends n env = ⊥

-- each part agrees, with what `end` means at it
abbrev pub PartsAgree : Exp → TExp → Context → Option ℕ → ℕ → Env → Type 0
PartsAgree (Apply at name opens args) (TSelect to t other site xs) cx ends n env = SubscriptsAgree args xs cx name 0 (args_count args) n env
PartsAgree (Apply at name opens args) (TBuiltin to t other xs) cx ends n env = ArgumentsAgree args xs cx ends n env
PartsAgree (Apply at name opens args) (TCall to t callee xs outs) cx ends n env = ArgumentsAgree args xs cx ends n env
PartsAgree (Unary at sign e) (TUnary to t also x) cx ends n env = NodeAgrees e cx ends x n env
PartsAgree (Binary at o a b) (TBinary to t also x y) cx ends n env = NodeAgrees a cx ends x n env × NodeAgrees b cx ends y n env
PartsAgree (Post at mark e) (TPost to t also x) cx ends n env = NodeAgrees e cx ends x n env
PartsAgree (Range at first last) (TRange to t x y) cx ends n env = NodeAgrees first cx ends x n env × NodeAgrees last cx ends y n env
PartsAgree (RangeBy at first step last) (TRangeBy to t x s y) cx ends n env =
    NodeAgrees first cx ends x n env × NodeAgrees step cx ends s n env × NodeAgrees last cx ends y n env
PartsAgree (Paren at e) (TParen to t x) cx ends n env = NodeAgrees e cx ends x n env
PartsAgree (Matrix at rows) (TMatrix to t rest) cx ends n env = RowsAgree rows rest cx ends n env
PartsAgree e x cx ends n env = Unit {0}

-- the first outputs of a callee, as many as are asked for
abbrev pub outputs_asked : TFun → ℕ → List Val → ℕ → Got ⊥ (List Val)
outputs_asked f n vs outs = function_values f n vs >>= (λ ws. Gives (take outs ws))

-- a call at this place of the function that a node calls: never wrong, so it is no function whose body is being run, and not too deep
abbrev pub CalleeAgrees : Place → TExp → Context → ℕ → Type 0
CalleeAgrees at (TCall to t (Function name place inputs outputs body) xs outs) cx n =
    (vs : List Val) → AllHold (slot_types inputs) vs
    → Agrees (AllHold (take outs (slot_types outputs))) (cx.call at name vs outs) (outputs_asked (Function name place inputs outputs body) n vs outs)
CalleeAgrees at x cx n = Unit {0}

-- in every environment that fits, the node agrees if its callee and its parts do
pub record IsRightNode (e : Exp) (x : TExp) (st : State) (meant : Ends) (cx : Context) : Type 0 where
  pub agrees : (n : ℕ) (env : Env) (ends : Option ℕ) → Fits st env → EndsFit meant ends → CalleeAgrees (place_of e) x cx n → PartsAgree e x cx ends n env → NodeAgrees e cx ends x n env

-- ---- sources

-- on all inputs of the declared types, and for each bound on the turns of loops: the outcome is that of the typed tree, and so it is never wrong
pub record IsMeaning (fs : List Fun) (entry : List ℕ) (ts : List NodeTy) (f : TFun) : Type 0 where
  pub agrees : (n : ℕ) → RunAgrees (λ vs. evaluated fs entry vs n) ts f n
