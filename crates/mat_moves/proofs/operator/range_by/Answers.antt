use Rattle.std.proofs.Common.{arith}
use Rattle.mat_ast.specs.View.{expr_view}
use Rattle.mat_grammar.specs.Machine.{Stuck}
use Rattle.mat_parts.specs.Pending.{stack_of, purpose_view, frame_view}
use Rattle.mat_moves.proofs.Goes.{goes, goes_option, by_taken, by_untaken}
use Rattle.mat_moves.proofs.operator.range_by.Goals as goal

pub returns-then-bound-ge6 : goal.returns-then-bound-ge6
unfolding frame_view
returns-then-bound-ge6 c =
    goes c.wait.result _ _ (by_taken c.args.place (expr_view c.args.first.expr) (expr_view c.args.part.expr) (stack_of c.args.pending.frames)
    (purpose_view c.args.pending.purpose) (omega (arith, c.args.part.ranked))) c.wait.ensures

pub returns : goal.returns
returns c =
    goes_option c.refuse_behind.result Stuck _
    (by_untaken c.args.place (expr_view c.args.first.expr) (expr_view c.args.part.expr) (stack_of c.args.pending.frames) (purpose_view c.args.pending.purpose)
    (omega (arith, c.args.part.ranked)))
    c.refuse_behind.ensures
