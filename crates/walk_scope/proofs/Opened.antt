-- What opened expressions and arguments of the code stand for.
use Rattle.std.proofs.Common.{◌≡◌, ℕ, List, map, ap, ◌∙◌, sym, Option, Some, None}
use Rattle.fic_base.specs.declared.place.Place.{Place}
use Rattle.mat_ast.specs.View.{expr_view, row_view, row_of, arg_view, args_view, arg_step, kind_step, expr_step, row_step}
use Rattle.mat_ast.specs.Tree.{Exp, Row, Apply, Binary, Range, RangeBy}
use Rattle.mat_ast.specs.declared.tree.BinOp.{BinOp}
use Rattle.mat_ast.specs.declared.tree.Arg.{Arg, fold-roll-Arg}
use Rattle.mat_ast.specs.declared.tree.Arg.TheVariants as arg
use Rattle.mat_ast.specs.declared.tree.Arg.TheVariants.{rolls-Item, rolls-All}
use Rattle.mat_ast.specs.declared.tree.Row as code
use Rattle.mat_ast.specs.declared.tree.Row.{fold_out-Row, out-Row}
use Rattle.mat_ast.specs.declared.tree.Expr.{Expr, fold_out-Expr, out-Expr}
use Rattle.mat_ast.specs.declared.tree.ExprKind.{fold-ExprKind, fold-roll-ExprKind, ExprKind}
use Rattle.mat_ast.specs.declared.tree.ExprKind.TheVariants as kind
use Rattle.mat_ast.specs.declared.tree.ExprKind.TheVariants.{rolls-Apply, rolls-Binary, rolls-Range}

-- what a kind stands for at a place
abbrev pub kind_at : ExprKind → Place → Exp
kind_at = fold-ExprKind (Option Exp) (Place → Exp) Exp Row arg_step kind_step expr_step row_step

opened : (e : Expr) (k : ExprKind) → (out-Expr e).kind ≡ k → expr_view e ≡ kind_at k (out-Expr e).place
opened e k h = fold_out-Expr (Option Exp) (Place → Exp) Exp Row arg_step kind_step expr_step row_step e ∙ ap (λ (k : ExprKind). kind_at k (out-Expr e).place) h

pub binary_view : (e : Expr) (o : BinOp) (a b : Expr) → (out-Expr e).kind ≡ kind.Binary o a b → expr_view e ≡ Binary (out-Expr e).place o (expr_view a) (expr_view b)
binary_view e o a b h =
    opened e (kind.Binary o a b) h ∙ ap (λ (k : ExprKind). kind_at k (out-Expr e).place) (sym (rolls-Binary o a b))
    ∙ ap (λ f. f (out-Expr e).place) (fold-roll-ExprKind (Option Exp) (Place → Exp) Exp Row arg_step kind_step expr_step row_step _)

pub apply_view : (e : Expr) (name : List ℕ) (opens : Place) (args : List Arg) → (out-Expr e).kind ≡ kind.Apply name opens args → expr_view e ≡ Apply (out-Expr e).place name opens (args_view args)
apply_view e name opens args h =
    opened e (kind.Apply name opens args) h ∙ ap (λ (k : ExprKind). kind_at k (out-Expr e).place) (sym (rolls-Apply name opens args))
    ∙ ap (λ f. f (out-Expr e).place) (fold-roll-ExprKind (Option Exp) (Place → Exp) Exp Row arg_step kind_step expr_step row_step _)

pub range_view : (e first last : Expr) → (out-Expr e).kind ≡ kind.Range first None last → expr_view e ≡ Range (out-Expr e).place (expr_view first) (expr_view last)
range_view e first last h =
    opened e (kind.Range first None last) h ∙ ap (λ (k : ExprKind). kind_at k (out-Expr e).place) (sym (rolls-Range first None last))
    ∙ ap (λ f. f (out-Expr e).place) (fold-roll-ExprKind (Option Exp) (Place → Exp) Exp Row arg_step kind_step expr_step row_step _)

pub range_by_view : (e first step last : Expr) → (out-Expr e).kind ≡ kind.Range first (Some step) last → expr_view e ≡ RangeBy (out-Expr e).place (expr_view first) (expr_view step) (expr_view last)
range_by_view e first step last h =
    opened e (kind.Range first (Some step) last) h ∙ ap (λ (k : ExprKind). kind_at k (out-Expr e).place) (sym (rolls-Range first (Some step) last))
    ∙ ap (λ f. f (out-Expr e).place) (fold-roll-ExprKind (Option Exp) (Place → Exp) Exp Row arg_step kind_step expr_step row_step _)

-- a row by its elements
pub cells_view : (r : code.Row) → row_view r ≡ row_of (map expr_view (out-Row r).cells)
cells_view r = fold_out-Row (Option Exp) (Place → Exp) Exp Row arg_step kind_step expr_step row_step r

-- an argument that is an expression
pub item_is : (a : Arg) (e : Expr) → a ≡ arg.Item e → arg_view a ≡ Some (expr_view e)
item_is a e h = ap arg_view (h ∙ sym (rolls-Item e)) ∙ fold-roll-Arg (Option Exp) (Place → Exp) Exp Row arg_step kind_step expr_step row_step _

-- all of a dimension
pub all_is : (a : Arg) → a ≡ arg.All → arg_view a ≡ None
all_is a h = ap arg_view (h ∙ sym rolls-All) ∙ fold-roll-Arg (Option Exp) (Place → Exp) Exp Row arg_step kind_step expr_step row_step _
