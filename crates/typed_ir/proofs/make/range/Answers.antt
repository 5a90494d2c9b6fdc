use Rattle.std.proofs.Common.{ap, ◌∙◌}
use Rattle.typed_ir.specs.View.{ty_view, expr_view}
use Rattle.typed_ir.specs.Tree.{TRange}
use Rattle.typed_ir.proofs.Ranges.{range_view}
use Rattle.typed_ir.proofs.make.range.Goals as goal

pub returns-in-Ok : goal.returns-in-Ok
returns-in-Ok c =
    range_view c.args.place c.args.ty c.in-Ok.first c.in-Ok.last
    ∙ ap (λ a. TRange c.args.place (ty_view c.args.ty) a (expr_view c.in-Ok.last)) c.in-Ok.ensures.0
    ∙ ap (λ a. TRange c.args.place (ty_view c.args.ty) (expr_view c.args.first) a) c.in-Ok.ensures.1
