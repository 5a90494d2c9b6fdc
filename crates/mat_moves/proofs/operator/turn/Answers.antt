use Rattle.std.proofs.Common.{arith}
use Rattle.mat_ast.specs.View.{expr_view}
use Rattle.mat_grammar.specs.Machine.{Stuck}
use Rattle.mat_parts.specs.Pending.{stack_of, purpose_view}
use Rattle.mat_moves.proofs.Goes.{goes, goes_option, turned, unturned}
use Rattle.mat_moves.proofs.operator.turn.Goals as goal

pub returns-then-bound-ge10 : goal.returns-then-bound-ge10
returns-then-bound-ge10 c =
    goes c.posted.result _ _ (turned c.args.place c.args.mark (expr_view c.args.part.expr) (stack_of c.args.pending.frames)
    (purpose_view c.args.pending.purpose) (omega (arith, c.args.part.ranked))) c.posted.ensures

pub returns : goal.returns
returns c =
    goes_option c.refuse.result Stuck _ (unturned c.args.place c.args.mark (expr_view c.args.part.expr) (stack_of c.args.pending.frames)
    (purpose_view c.args.pending.purpose) (omega (arith, c.args.part.ranked))) c.refuse.ensures
