-- What the code's typed ranges stand for.
use Rattle.std.proofs.Common.{◌≡◌, ap, ◌∙◌, sym, Some, None, Option}
use Rattle.fic_base.specs.declared.place.Place.{Place}
use Rattle.typed_ir.specs.declared.ty.Ty.{Ty}
use Rattle.typed_ir.specs.declared.tree.TExpr.{TExpr, fold-roll-TExpr, roll-TExpr}
use Rattle.typed_ir.specs.declared.tree.TKind.{TKind, fold-TKind, fold-roll-TKind}
use Rattle.typed_ir.specs.declared.tree.TKind.TheVariants as kind
use Rattle.typed_ir.specs.declared.tree.TKind.TheVariants.{rolls-Range}
use Rattle.typed_ir.specs.Tree.{TExp, TItems, TSta, TFun, TRange, TRangeBy}
use Rattle.typed_ir.specs.View.{Kind, Seen, Called, ty_view, expr_view, arg_step, kind_step, stmt_step, fun_step, arm_step, call_step, expr_step, row_step}

-- what a kind of expression stands for
abbrev pub seen : TKind → Kind
seen = fold-TKind (Option TExp) Kind TSta TFun Seen Called TExp TItems arg_step kind_step stmt_step fun_step arm_step call_step expr_step row_step

pub range_view : (at : Place) (t : Ty) (first last : TExpr)
    → expr_view (roll-TExpr (record { place = at; ty = t; kind = kind.Range first None last })) ≡ TRange at (ty_view t) (expr_view first) (expr_view last)
range_view at t first last =
    fold-roll-TExpr (Option TExp) Kind TSta TFun Seen Called TExp TItems arg_step kind_step stmt_step fun_step arm_step call_step expr_step row_step _
    ∙ ap (λ (k : TKind). seen k at (ty_view t)) (sym (rolls-Range first None last))
    ∙ ap (λ f. f at (ty_view t)) (fold-roll-TKind (Option TExp) Kind TSta TFun Seen Called TExp TItems arg_step kind_step stmt_step fun_step arm_step call_step expr_step row_step _)

pub range_by_view : (at : Place) (t : Ty) (first step last : TExpr)
    → expr_view (roll-TExpr (record { place = at; ty = t; kind = kind.Range first (Some step) last })) ≡ TRangeBy at (ty_view t) (expr_view first) (expr_view step) (expr_view last)
range_by_view at t first step last =
    fold-roll-TExpr (Option TExp) Kind TSta TFun Seen Called TExp TItems arg_step kind_step stmt_step fun_step arm_step call_step expr_step row_step _
    ∙ ap (λ (k : TKind). seen k at (ty_view t)) (sym (rolls-Range first (Some step) last))
    ∙ ap (λ f. f at (ty_view t)) (fold-roll-TKind (Option TExp) Kind TSta TFun Seen Called TExp TItems arg_step kind_step stmt_step fun_step arm_step call_step expr_step row_step _)
