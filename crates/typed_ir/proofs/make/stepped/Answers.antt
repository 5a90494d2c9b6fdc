use Rattle.std.proofs.Common.{ap, ◌∙◌}
use Rattle.typed_ir.specs.View.{ty_view, expr_view}
use Rattle.typed_ir.specs.Tree.{TRangeBy}
use Rattle.typed_ir.proofs.Ranges.{range_by_view}
use Rattle.typed_ir.proofs.make.stepped.Goals as goal

pub returns-in-Ok : goal.returns-in-Ok
returns-in-Ok c =
    range_by_view c.args.place c.args.ty c.in-Ok.first c.args.step c.in-Ok.last
    ∙ ap (λ a. TRangeBy c.args.place (ty_view c.args.ty) a (expr_view c.args.step) (expr_view c.in-Ok.last)) c.in-Ok.ensures.0
    ∙ ap (λ a. TRangeBy c.args.place (ty_view c.args.ty) (expr_view c.args.first) (expr_view c.args.step) a) c.in-Ok.ensures.1
