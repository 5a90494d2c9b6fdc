use Rattle.std.proofs.Common.{ap, ◌∙◌}
use Rattle.mat_ast.specs.View.{expr_view}
use Rattle.mat_ast.specs.Tree.{Range}
use Rattle.mat_ast.proofs.Ranges.{range_view}
use Rattle.mat_ast.proofs.make.range.Goals as goal

pub returns : goal.returns
returns c =
    range_view c.args.place c.in_ok-first.first c.in_ok-last.last
    ∙ ap (λ a. Range c.args.place (expr_view a) (expr_view c.in_ok-last.last)) c.in_ok-first.ensures ∙ ap (λ a. Range c.args.place (expr_view c.args.first) (expr_view a)) c.in_ok-last.ensures
