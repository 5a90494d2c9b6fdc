-- What a tree of the code stands for.
use Rattle.std.specs.Prelude.{List, [], ◌∷◌, map, Option, Some, None}
use Rattle.fic_base.specs.declared.place.Place.{Place}
use Rattle.mat_ast.specs.declared.tree.Expr.{Expr, fold-Expr}
use Rattle.mat_ast.specs.declared.tree.Arg.{Arg, fold-Arg}
use Rattle.mat_ast.specs.declared.tree.Arg.{Arg-F}
use Rattle.mat_ast.specs.declared.tree.ExprKind.{ExprKind-F}
use Rattle.mat_ast.specs.declared.tree.Expr.{Expr-F}
use Rattle.mat_ast.specs.declared.tree.Row.{Row-F}
use Rattle.mat_ast.specs.declared.tree.Row as code
use Rattle.mat_ast.specs.declared.tree.Row.{fold-Row}
use Rattle.mat_ast.specs.declared.tree.Stmt.{Stmt, fold-Stmt}
use Rattle.mat_ast.specs.declared.tree.Stmt.{Stmt-F}
use Rattle.mat_ast.specs.declared.tree.Arm.{Arm-F, fold-Arm}
use Rattle.mat_ast.specs.declared.tree.Arm as arm
use Rattle.mat_ast.specs.declared.tree.Func.{Func}
use Rattle.mat_ast.specs.Tree.{Exp, Number, Words, Name, Apply, End, Unary, Binary, Post, Range, RangeBy, Paren, Matrix, Args, NoArgs, Whole, Item, Row, RowEnd, Cell, Rows, NoRows, RowOn, Sta, Assign, Store, Multi, IfOnly, IfElse, ForEach, WhileTrue, BreakOff, GoOn, Arms, NoArms, Arm, Block, Done, Next, Fun}

-- the arguments of a name, each an expression or none for `:`
abbrev pub args_of : List (Option Exp) → Args
args_of [] = NoArgs
args_of (None ∷ more) = Whole (args_of more)
args_of (Some e ∷ more) = Item e (args_of more)

-- the elements of a row
abbrev pub row_of : List Exp → Row
row_of [] = RowEnd
row_of (e ∷ more) = Cell e (row_of more)

-- the rows of a bracket
abbrev pub rows_of : List Row → Rows
rows_of [] = NoRows
rows_of (r ∷ more) = RowOn r (rows_of more)

-- one level, with the parts already seen
abbrev pub arg_step : Arg-F (Option Exp) (Place → Exp) Exp Row → Option Exp
arg_step Arg-F.All = None
arg_step (Arg-F.Item e) = Some e

-- a range with a step or without
abbrev pub range_at : Exp → Option Exp → Exp → Place → Exp
range_at first None last at = Range at first last
range_at first (Some step) last at = RangeBy at first step last

-- a kind of expression at its place
abbrev pub kind_step : ExprKind-F (Option Exp) (Place → Exp) Exp Row → Place → Exp
kind_step (ExprKind-F.Number text imaginary) at = Number at text imaginary
kind_step (ExprKind-F.Words text) at = Words at text
kind_step (ExprKind-F.Name text) at = Name at text
kind_step (ExprKind-F.Apply text opens args) at = Apply at text opens (args_of args)
kind_step ExprKind-F.End at = End at
kind_step (ExprKind-F.Unary op e) at = Unary at op e
kind_step (ExprKind-F.Binary op a b) at = Binary at op a b
kind_step (ExprKind-F.Post op e) at = Post at op e
kind_step (ExprKind-F.Range first step last) at = range_at first step last at
kind_step (ExprKind-F.Paren e) at = Paren at e
kind_step (ExprKind-F.Matrix rows) at = Matrix at (rows_of rows)

-- an expression
abbrev pub expr_step : Expr-F (Option Exp) (Place → Exp) Exp Row → Exp
expr_step e = e.kind e.place

-- a row
abbrev pub row_step : Row-F (Option Exp) (Place → Exp) Exp Row → Row
row_step r = row_of r.cells

-- what an expression stands for
abbrev pub expr_view : Expr → Exp
expr_view = fold-Expr (Option Exp) (Place → Exp) Exp Row arg_step kind_step expr_step row_step

-- what an argument stands for
abbrev pub arg_view : Arg → Option Exp
arg_view = fold-Arg (Option Exp) (Place → Exp) Exp Row arg_step kind_step expr_step row_step

-- what arguments stand for
abbrev pub args_view : List Arg → Args
args_view args = args_of (map arg_view args)

-- what a row stands for
abbrev pub row_view : code.Row → Row
row_view = fold-Row (Option Exp) (Place → Exp) Exp Row arg_step kind_step expr_step row_step

-- what rows stand for
abbrev pub rows_view : List code.Row → Rows
rows_view rows = rows_of (map row_view rows)

-- the statements of a block
abbrev pub block_of : List Sta → Block
block_of [] = Done
block_of (s ∷ more) = Next s (block_of more)

-- an arm, with its statements already seen
abbrev pub Seen : Type 0
Seen = Exp × Block

-- an arm
abbrev pub arm_step : Arm-F Sta Seen → Seen
arm_step a = (expr_view a.condition, block_of a.body)

-- the arms of an `if`
abbrev pub arms_of : List Seen → Arms
arms_of [] = NoArms
arms_of (a ∷ more) = Arm a.0 a.1 (arms_of more)

-- an `if` with an `else` or without
abbrev pub if_at : Place → Arms → Option (List Sta) → Sta
if_at at arms None = IfOnly at arms
if_at at arms (Some other) = IfElse at arms (block_of other)

-- a statement
abbrev pub stmt_step : Stmt-F Sta Seen → Sta
stmt_step (Stmt-F.Assign to value) = Assign to (expr_view value)
stmt_step (Stmt-F.Store to opens args value) = Store to opens (args_view args) (expr_view value)
stmt_step (Stmt-F.Multi targets call) = Multi targets (expr_view call)
stmt_step (Stmt-F.If at arms other) = if_at at (arms_of arms) other
stmt_step (Stmt-F.For at to range body) = ForEach at to (expr_view range) (block_of body)
stmt_step (Stmt-F.While at condition body) = WhileTrue at (expr_view condition) (block_of body)
stmt_step (Stmt-F.Break at) = BreakOff at
stmt_step (Stmt-F.Continue at) = GoOn at

-- what a statement stands for
abbrev pub stmt_view : Stmt → Sta
stmt_view = fold-Stmt Sta Seen stmt_step arm_step

-- what a block stands for
abbrev pub block_view : List Stmt → Block
block_view body = block_of (map stmt_view body)

-- what an arm stands for
abbrev pub arm_view : arm.Arm → Seen
arm_view = fold-Arm Sta Seen stmt_step arm_step

-- what arms stand for
abbrev pub arms_view : List arm.Arm → Arms
arms_view arms = arms_of (map arm_view arms)

-- what a function stands for
abbrev pub func_view : Func → Fun
func_view f = record { name = f.name; inputs = f.inputs; outputs = f.outputs; body = block_view f.body }

-- what functions stand for
abbrev pub funcs_view : List Func → List Fun
funcs_view = map func_view
