-- What a typed tree of the code stands for.
use Rattle.std.specs.Prelude.{ℕ, List, [], ◌∷◌, map, Option, Some, None}
use Rattle.std.specs.Global.{Vec}
use Rattle.fic_base.specs.declared.place.Place.{Place}
use Rattle.num_type.specs.View.{type_of, exact_of}
use Rattle.num_type.specs.Constants.{Exact}
use Rattle.num_type.specs.declared.dyadic.Dyadic.{Dyadic}
use Rattle.eval_value.specs.View.{shape_view}
use Rattle.node_rules.specs.Types.{NodeTy, FiNode, LogicalNode, NumberNode, IndexNode, TextNode, MathNode, TypeNode}
use Rattle.typed_ir.specs.declared.ty.Ty.{Ty}
use Rattle.typed_ir.specs.declared.ty.Ty.TheVariants as ty
use Rattle.typed_ir.specs.declared.tree.Slot as code
use Rattle.typed_ir.specs.declared.tree.TArg.{TArg, TArg-F, fold-TArg}
use Rattle.typed_ir.specs.declared.tree.TKind.{TKind-F}
use Rattle.typed_ir.specs.declared.tree.TStmt.{TStmt, TStmt-F, fold-TStmt}
use Rattle.typed_ir.specs.declared.tree.FnTree.{FnTree, FnTree-F, fold-FnTree}
use Rattle.typed_ir.specs.declared.tree.TArm as arm
use Rattle.typed_ir.specs.declared.tree.TArm.{TArm-F, fold-TArm}
use Rattle.typed_ir.specs.declared.tree.TCall as call
use Rattle.typed_ir.specs.declared.tree.TCall.{TCall-F, fold-TCall}
use Rattle.typed_ir.specs.declared.tree.TExpr.{TExpr, TExpr-F, fold-TExpr}
use Rattle.typed_ir.specs.declared.tree.TRow as row
use Rattle.typed_ir.specs.declared.tree.TRow.{TRow-F, fold-TRow}
use Rattle.typed_ir.specs.Tree.{Slot, TExp, TNumber, TWords, TRead, TSelect, TBuiltin, TCall, TEnd, TUnary, TBinary, TPost, TRange, TRangeBy, TParen, TMatrix, TArgs, TNoArgs, TAll, TItem, TItems, TNone, TOne, TRows, TNoRows, TRowOn, TSta, TAssign, TStore, TMulti, TIfOnly, TIfElse, TForEach, TWhile, TBreak, TContinue, TArms, TNoArms, TArm, TBlock, TDone, TNext, TFun, Function}

-- ---- types

abbrev pub parts_of : Option (Vec Dyadic) → Option (List Exact)
parts_of None = None
parts_of (Some parts) = Some (map exact_of parts.items)

abbrev pub ty_view : Ty → NodeTy
ty_view (ty.Fi t) = FiNode (type_of t.num) t.math t.complex (shape_view t.shape)
ty_view (ty.Logical s) = LogicalNode (shape_view s)
ty_view (ty.Number c) = NumberNode (shape_view c.shape) (map exact_of c.re.items) (parts_of c.im)
ty_view (ty.Index lo hi) = IndexNode lo hi
ty_view (ty.Words text) = TextNode text
ty_view (ty.Math m) = MathNode m
ty_view (ty.Numeric t) = TypeNode (type_of t)

abbrev pub slot_view : code.Slot → Slot
slot_view s = record { name = s.name; ty = ty_view s.ty }

abbrev pub slots_view : List code.Slot → List Slot
slots_view = map slot_view

-- ---- lists of parts

-- subscripts, none for `:`
abbrev pub args_of : List (Option TExp) → TArgs
args_of [] = TNoArgs
args_of (None ∷ more) = TAll (args_of more)
args_of (Some e ∷ more) = TItem e (args_of more)

abbrev pub items_of : List TExp → TItems
items_of [] = TNone
items_of (e ∷ more) = TOne e (items_of more)

abbrev pub rows_of : List TItems → TRows
rows_of [] = TNoRows
rows_of (r ∷ more) = TRowOn r (rows_of more)

abbrev pub block_of : List TSta → TBlock
block_of [] = TDone
block_of (s ∷ more) = TNext s (block_of more)

-- an arm, with its statements
abbrev pub Seen : Type 0
Seen = TExp × TBlock

abbrev pub arms_of : List Seen → TArms
arms_of [] = TNoArms
arms_of (a ∷ more) = TArm a.0 a.1 (arms_of more)

-- a call without its place and type
pub record Called : Type 0 where
  pub callee : TFun
  pub args : List TExp
  pub outs : ℕ

-- ---- one level, with the parts already seen

abbrev pub Kind : Type 0
Kind = Place → NodeTy → TExp

abbrev pub arg_step : TArg-F (Option TExp) Kind TSta TFun Seen Called TExp TItems → Option TExp
arg_step TArg-F.All = None
arg_step (TArg-F.Item e) = Some e

-- a range with a step or without
abbrev pub range_at : TExp → Option TExp → TExp → Kind
range_at first None last at t = TRange at t first last
range_at first (Some step) last at t = TRangeBy at t first step last

abbrev pub kind_step : TKind-F (Option TExp) Kind TSta TFun Seen Called TExp TItems → Kind
kind_step (TKind-F.Number text imaginary) at t = TNumber at t text imaginary
kind_step (TKind-F.Words text) at t = TWords at t text
kind_step (TKind-F.Read name) at t = TRead at t name
kind_step (TKind-F.Select name site args) at t = TSelect at t name site (args_of args)
kind_step (TKind-F.Builtin name args) at t = TBuiltin at t name (items_of args)
kind_step (TKind-F.Call c) at t = TCall at t c.callee (items_of c.args) c.outs
kind_step TKind-F.End at t = TEnd at t
kind_step (TKind-F.Unary op e) at t = TUnary at t op e
kind_step (TKind-F.Binary op a b) at t = TBinary at t op a b
kind_step (TKind-F.Post op e) at t = TPost at t op e
kind_step (TKind-F.Range first step last) at t = range_at first step last at t
kind_step (TKind-F.Paren e) at t = TParen at t e
kind_step (TKind-F.Matrix rows) at t = TMatrix at t (rows_of rows)

-- an `if` with an `else` or without
abbrev pub if_at : Place → TArms → Option (List TSta) → TSta
if_at at arms None = TIfOnly at arms
if_at at arms (Some other) = TIfElse at arms (block_of other)

abbrev pub stmt_step : TStmt-F (Option TExp) Kind TSta TFun Seen Called TExp TItems → TSta
stmt_step (TStmt-F.Assign to value) = TAssign to value
stmt_step (TStmt-F.Store to site args value) = TStore to site (args_of args) value
stmt_step (TStmt-F.Multi targets call) = TMulti targets call
stmt_step (TStmt-F.If at arms other) = if_at at (arms_of arms) other
stmt_step (TStmt-F.For at to bounds first step count body) = TForEach at to (items_of bounds) first step count (block_of body)
stmt_step (TStmt-F.While at condition body) = TWhile at condition (block_of body)
stmt_step (TStmt-F.Break at) = TBreak at
stmt_step (TStmt-F.Continue at) = TContinue at

abbrev pub fun_step : FnTree-F (Option TExp) Kind TSta TFun Seen Called TExp TItems → TFun
fun_step f = Function f.entry f.place (slots_view f.inputs) (slots_view f.outputs) (block_of f.body)

abbrev pub arm_step : TArm-F (Option TExp) Kind TSta TFun Seen Called TExp TItems → Seen
arm_step a = (a.condition, block_of a.body)

abbrev pub call_step : TCall-F (Option TExp) Kind TSta TFun Seen Called TExp TItems → Called
call_step c = record { callee = c.callee; args = c.args; outs = c.outs }

abbrev pub expr_step : TExpr-F (Option TExp) Kind TSta TFun Seen Called TExp TItems → TExp
expr_step e = e.kind e.place (ty_view e.ty)

abbrev pub row_step : TRow-F (Option TExp) Kind TSta TFun Seen Called TExp TItems → TItems
row_step r = items_of r.cells

-- ---- trees

abbrev pub expr_view : TExpr → TExp
expr_view = fold-TExpr (Option TExp) Kind TSta TFun Seen Called TExp TItems arg_step kind_step stmt_step fun_step arm_step call_step expr_step row_step

abbrev pub arg_view : TArg → Option TExp
arg_view = fold-TArg (Option TExp) Kind TSta TFun Seen Called TExp TItems arg_step kind_step stmt_step fun_step arm_step call_step expr_step row_step

abbrev pub args_view : List TArg → TArgs
args_view args = args_of (map arg_view args)

abbrev pub items_view : List TExpr → TItems
items_view es = items_of (map expr_view es)

abbrev pub row_view : row.TRow → TItems
row_view = fold-TRow (Option TExp) Kind TSta TFun Seen Called TExp TItems arg_step kind_step stmt_step fun_step arm_step call_step expr_step row_step

abbrev pub rows_view : List row.TRow → TRows
rows_view rows = rows_of (map row_view rows)

abbrev pub stmt_view : TStmt → TSta
stmt_view = fold-TStmt (Option TExp) Kind TSta TFun Seen Called TExp TItems arg_step kind_step stmt_step fun_step arm_step call_step expr_step row_step

abbrev pub block_view : List TStmt → TBlock
block_view body = block_of (map stmt_view body)

abbrev pub arm_view : arm.TArm → Seen
arm_view = fold-TArm (Option TExp) Kind TSta TFun Seen Called TExp TItems arg_step kind_step stmt_step fun_step arm_step call_step expr_step row_step

abbrev pub arms_view : List arm.TArm → TArms
arms_view arms = arms_of (map arm_view arms)

abbrev pub call_view : call.TCall → Called
call_view = fold-TCall (Option TExp) Kind TSta TFun Seen Called TExp TItems arg_step kind_step stmt_step fun_step arm_step call_step expr_step row_step

abbrev pub fun_view : FnTree → TFun
fun_view = fold-FnTree (Option TExp) Kind TSta TFun Seen Called TExp TItems arg_step kind_step stmt_step fun_step arm_step call_step expr_step row_step
