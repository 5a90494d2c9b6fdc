use Rattle.std.proofs.Common.{ap, ◌∙◌}
use Rattle.mat_ast.specs.View.{expr_view}
use Rattle.mat_ast.specs.Tree.{RangeBy}
use Rattle.mat_ast.proofs.Ranges.{range_by_view}
use Rattle.mat_ast.proofs.make.range_by.Goals as goal

pub returns : goal.returns
returns c =
    range_by_view c.args.place c.in_ok-first.first c.in_ok-step.step c.in_ok-last.last
    ∙ ap (λ a. RangeBy c.args.place (expr_view a) (expr_view c.in_ok-step.step) (expr_view c.in_ok-last.last)) c.in_ok-first.ensures
    ∙ ap (λ a. RangeBy c.args.place (expr_view c.args.first) (expr_view a) (expr_view c.in_ok-last.last)) c.in_ok-step.ensures
    ∙ ap (λ a. RangeBy c.args.place (expr_view c.args.first) (expr_view c.args.step) (expr_view a)) c.in_ok-last.ensures
