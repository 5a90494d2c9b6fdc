-- Lists of the code with one more, as contracts see them.
use Rattle.std.proofs.Common.{◌≡◌, List, [], ◌∷◌, ◌++◌, refl, ap, sym, ◌∙◌, map, max, Option, Some, None}
use Rattle.fic_base.specs.declared.place.Place.{Place}
use Rattle.mat_ast.specs.declared.tree.Expr.{Expr}
use Rattle.mat_ast.specs.declared.tree.Arg.{Arg, fold-roll-Arg}
use Rattle.mat_ast.specs.declared.tree.Arg.TheVariants as arg
use Rattle.mat_ast.specs.declared.tree.Arg.TheVariants.{rolls-Item, rolls-All}
use Rattle.mat_ast.specs.declared.tree.Row.{roll-Row, fold-roll-Row}
use Rattle.mat_ast.specs.declared.tree.Row as row
use Rattle.mat_ast.specs.declared.tree.Stmt.{Stmt}
use Rattle.mat_ast.specs.declared.tree.Arm.{roll-Arm, fold-roll-Arm}
use Rattle.mat_ast.specs.declared.tree.Arm as arm
use Rattle.mat_ast.specs.Tree.{Exp, Args, Row, Cell, Rows, Sta, Block, Arms}
use Rattle.mat_ast.specs.declared.tree.Func.{Func}
use Rattle.mat_ast.specs.Depth.{block_depth, file_depth}
use Rattle.mat_grammar.proofs.Depths.{file_depth_fun}
use Rattle.mat_ast.specs.View.{func_view, funcs_view, expr_view, arg_view, args_view, row_view, rows_view, stmt_view, block_view, arm_view, arms_view, args_of, row_of, rows_of, block_of, arms_of, Seen, arg_step, kind_step, expr_step, row_step, stmt_step, arm_step}
use Rattle.mat_grammar.specs.Machine.{with_item, with_whole, with_cell, with_row, with_statement, with_arm}
use Rattle.mat_parts.specs.View.{cells_view}

map_last : {A B : Type 0} (f : A → B) (xs : List A) (x : A) → map f (xs ++ x ∷ []) ≡ map f xs ++ f x ∷ []
map_last f [] x = refl
map_last f (y ∷ xs) x = ap (λ more. f y ∷ more) (map_last f xs x)

args_last : (os : List (Option Exp)) (e : Exp) → args_of (os ++ Some e ∷ []) ≡ with_item (args_of os) e
args_last [] e = refl
args_last (None ∷ os) e = ap Args.Whole (args_last os e)
args_last (Some a ∷ os) e = ap (Args.Item a) (args_last os e)

args_last_whole : (os : List (Option Exp)) → args_of (os ++ None ∷ []) ≡ with_whole (args_of os)
args_last_whole [] = refl
args_last_whole (None ∷ os) = ap Args.Whole (args_last_whole os)
args_last_whole (Some a ∷ os) = ap (Args.Item a) (args_last_whole os)

item_view : (e : Expr) → arg_view (arg.Item e) ≡ Some (expr_view e)
item_view e = ap arg_view (sym (rolls-Item e)) ∙ fold-roll-Arg (Option Exp) (Place → Exp) Exp Row arg_step kind_step expr_step row_step _

all_view : arg_view arg.All ≡ None
all_view = ap arg_view (sym rolls-All) ∙ fold-roll-Arg (Option Exp) (Place → Exp) Exp Row arg_step kind_step expr_step row_step _

pub args_item : (args : List Arg) (e : Expr) → args_view (args ++ arg.Item e ∷ []) ≡ with_item (args_view args) (expr_view e)
args_item args e = ap args_of (map_last arg_view args (arg.Item e) ∙ ap (λ o. map arg_view args ++ o ∷ []) (item_view e)) ∙ args_last (map arg_view args) (expr_view e)

pub args_whole : (args : List Arg) → args_view (args ++ arg.All ∷ []) ≡ with_whole (args_view args)
args_whole args = ap args_of (map_last arg_view args arg.All ∙ ap (λ o. map arg_view args ++ o ∷ []) all_view) ∙ args_last_whole (map arg_view args)

row_last : (es : List Exp) (e : Exp) → row_of (es ++ e ∷ []) ≡ with_cell (row_of es) e
row_last [] e = refl
row_last (a ∷ es) e = ap (Cell a) (row_last es e)

pub cells_push : (cells : List Expr) (e : Expr) → cells_view (cells ++ e ∷ []) ≡ with_cell (cells_view cells) (expr_view e)
cells_push cells e = ap row_of (map_last expr_view cells e) ∙ row_last (map expr_view cells) (expr_view e)

rows_last : (rs : List Row) (r : Row) → rows_of (rs ++ r ∷ []) ≡ with_row (rows_of rs) r
rows_last [] r = refl
rows_last (a ∷ rs) r = ap (Rows.RowOn a) (rows_last rs r)

row_made : (cells : List Expr) → row_view (roll-Row (record { cells = cells })) ≡ cells_view cells
row_made cells = fold-roll-Row (Option Exp) (Place → Exp) Exp Row arg_step kind_step expr_step row_step _

pub rows_push : (rows : List row.Row) (cells : List Expr) → rows_view (rows ++ roll-Row (record { cells = cells }) ∷ []) ≡ with_row (rows_view rows) (cells_view cells)
rows_push rows cells =
    ap rows_of (map_last row_view rows (roll-Row (record { cells = cells })) ∙ ap (λ r. map row_view rows ++ r ∷ []) (row_made cells))
    ∙ rows_last (map row_view rows) (cells_view cells)

block_last : (ss : List Sta) (s : Sta) → block_of (ss ++ s ∷ []) ≡ with_statement (block_of ss) s
block_last [] s = refl
block_last (a ∷ ss) s = ap (Block.Next a) (block_last ss s)

pub block_push : (body : List Stmt) (s : Stmt) → block_view (body ++ s ∷ []) ≡ with_statement (block_view body) (stmt_view s)
block_push body s = ap block_of (map_last stmt_view body s) ∙ block_last (map stmt_view body) (stmt_view s)

arms_last : (seen : List Seen) (a : Seen) → arms_of (seen ++ a ∷ []) ≡ with_arm (arms_of seen) a.0 a.1
arms_last [] a = refl
arms_last (b ∷ seen) a = ap (Arms.Arm b.0 b.1) (arms_last seen a)

arm_made : (condition : Expr) (body : List Stmt) → ◌≡◌ {A = Seen} (arm_view (roll-Arm (record { condition = condition; body = body }))) (expr_view condition, block_view body)
arm_made condition body = fold-roll-Arm Sta Seen stmt_step arm_step _

pub arms_push : (arms : List arm.Arm) (condition : Expr) (body : List Stmt) → arms_view (arms ++ roll-Arm (record { condition = condition; body = body }) ∷ []) ≡ with_arm (arms_view arms) (expr_view condition) (block_view body)
arms_push arms condition body =
    ap arms_of (map_last arm_view arms (roll-Arm (record { condition = condition; body = body })) ∙ ap (λ (a : Seen). map arm_view arms ++ a ∷ []) (arm_made condition body))
    ∙ arms_last (map arm_view arms) (expr_view condition, block_view body)

pub funcs_push : (old new : List Func) (f : Func) → new ≡ old ++ f ∷ [] → file_depth (funcs_view new) ≡ max (file_depth (funcs_view old)) (block_depth (block_view f.body))
funcs_push old new f e = ap (λ fs. file_depth (funcs_view fs)) e ∙ ap file_depth (map_last func_view old f) ∙ file_depth_fun (funcs_view old) (func_view f)
