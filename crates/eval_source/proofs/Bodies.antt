-- What opened statements stand for.
use Rattle.std.proofs.Common.{◌≡◌, List, Some, None, ap, ◌∙◌, sym}
use Rattle.fic_base.specs.declared.place.Place.{Place}
use Rattle.mat_ast.specs.Tree.{Sta, Store, IfOnly, IfElse, ForEach}
use Rattle.mat_ast.specs.View.{Seen, expr_view, args_view, stmt_view, block_view, arms_view, stmt_step, arm_step}
use Rattle.mat_ast.specs.declared.tree.Arg.{Arg}
use Rattle.mat_ast.specs.declared.tree.Arm as arm
use Rattle.mat_ast.specs.declared.tree.Expr.{Expr}
use Rattle.mat_ast.specs.declared.tree.Ident.{Ident}
use Rattle.mat_ast.specs.declared.tree.Stmt.{Stmt, fold-roll-Stmt}
use Rattle.mat_ast.specs.declared.tree.Stmt.TheVariants as stmt
use Rattle.mat_ast.specs.declared.tree.Stmt.TheVariants.{rolls-Store, rolls-If, rolls-For}

pub store_view : (s : Stmt) (to : Ident) (opens : Place) (args : List Arg) (e : Expr) → s ≡ stmt.Store to opens args e → stmt_view s ≡ Store to opens (args_view args) (expr_view e)
store_view s to opens args e h = ap stmt_view (h ∙ sym (rolls-Store to opens args e)) ∙ fold-roll-Stmt Sta Seen stmt_step arm_step _

pub if_only_view : (s : Stmt) (at : Place) (arms : List arm.Arm) → s ≡ stmt.If at arms None → stmt_view s ≡ IfOnly at (arms_view arms)
if_only_view s at arms h = ap stmt_view (h ∙ sym (rolls-If at arms None)) ∙ fold-roll-Stmt Sta Seen stmt_step arm_step _

pub if_else_view : (s : Stmt) (at : Place) (arms : List arm.Arm) (other : List Stmt) → s ≡ stmt.If at arms (Some other) → stmt_view s ≡ IfElse at (arms_view arms) (block_view other)
if_else_view s at arms other h = ap stmt_view (h ∙ sym (rolls-If at arms (Some other))) ∙ fold-roll-Stmt Sta Seen stmt_step arm_step _

pub for_view : (s : Stmt) (at : Place) (to : Ident) (range : Expr) (body : List Stmt) → s ≡ stmt.For at to range body → stmt_view s ≡ ForEach at to (expr_view range) (block_view body)
for_view s at to range body h = ap stmt_view (h ∙ sym (rolls-For at to range body)) ∙ fold-roll-Stmt Sta Seen stmt_step arm_step _
