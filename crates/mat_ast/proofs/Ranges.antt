-- What the code's ranges stand for.
use Rattle.std.proofs.Common.{◌≡◌, ap, ◌∙◌, sym, Some, None, Option}
use Rattle.fic_base.specs.declared.place.Place.{Place}
use Rattle.mat_ast.specs.View.{expr_view, arg_step, kind_step, expr_step, row_step}
use Rattle.mat_ast.specs.Tree.{Exp, Row, Range, RangeBy}
use Rattle.mat_ast.specs.declared.tree.Expr.{Expr, fold-roll-Expr, roll-Expr}
use Rattle.mat_ast.specs.declared.tree.ExprKind.{fold-ExprKind, fold-roll-ExprKind, ExprKind}
use Rattle.mat_ast.specs.declared.tree.ExprKind.TheVariants as kind
use Rattle.mat_ast.specs.declared.tree.ExprKind.TheVariants.{rolls-Range}

pub range_view : (at : Place) (first last : Expr) → expr_view (roll-Expr (record { place = at; kind = kind.Range first None last })) ≡ Range at (expr_view first) (expr_view last)
range_view at first last =
    fold-roll-Expr (Option Exp) (Place → Exp) Exp Row arg_step kind_step expr_step row_step _
    ∙ ap (λ (k : ExprKind). fold-ExprKind (Option Exp) (Place → Exp) Exp Row arg_step kind_step expr_step row_step k at) (sym (rolls-Range first None last))
    ∙ ap (λ f. f at) (fold-roll-ExprKind (Option Exp) (Place → Exp) Exp Row arg_step kind_step expr_step row_step _)

pub range_by_view : (at : Place) (first step last : Expr) → expr_view (roll-Expr (record { place = at; kind = kind.Range first (Some step) last })) ≡ RangeBy at (expr_view first) (expr_view step) (expr_view last)
range_by_view at first step last =
    fold-roll-Expr (Option Exp) (Place → Exp) Exp Row arg_step kind_step expr_step row_step _
    ∙ ap (λ (k : ExprKind). fold-ExprKind (Option Exp) (Place → Exp) Exp Row arg_step kind_step expr_step row_step k at) (sym (rolls-Range first (Some step) last))
    ∙ ap (λ f. f at) (fold-roll-ExprKind (Option Exp) (Place → Exp) Exp Row arg_step kind_step expr_step row_step _)
