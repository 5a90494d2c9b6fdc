use Rattle.std.proofs.Common.{arith}
use Rattle.mat_ast.specs.View.{expr_view}
use Rattle.mat_grammar.specs.Machine.{Stuck}
use Rattle.mat_parts.specs.Pending.{stack_of, purpose_view, frame_view}
use Rattle.mat_moves.proofs.Goes.{goes, goes_option, taken, untaken}
use Rattle.mat_moves.proofs.operator.operator.Goals as goal

pub returns-then-level-bound : goal.returns-then-level-bound
unfolding frame_view
returns-then-level-bound c =
    goes c.wait.result _ _ (taken c.args.place c.args.op (expr_view c.args.part.expr) (stack_of c.args.pending.frames) (purpose_view c.args.pending.purpose)
    (omega (arith, c.rank-level.ensures, c.args.part.ranked)))
    c.wait.ensures

pub returns : goal.returns
returns c =
    goes_option c.refuse.result Stuck _ (untaken c.args.place c.args.op (expr_view c.args.part.expr) (stack_of c.args.pending.frames)
    (purpose_view c.args.pending.purpose) (omega (arith, c.rank-level.ensures, c.args.part.ranked)))
    c.refuse.ensures
