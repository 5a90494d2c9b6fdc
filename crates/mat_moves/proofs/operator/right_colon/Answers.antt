use Rattle.std.proofs.Common.{arith}
use Rattle.mat_ast.specs.View.{expr_view}
use Rattle.mat_grammar.specs.Machine.{Stuck}
use Rattle.mat_parts.specs.Pending.{stack_of, purpose_view, frame_view}
use Rattle.mat_moves.proofs.Goes.{goes, goes_option, right_to, right_stuck}
use Rattle.mat_moves.proofs.operator.right_colon.Goals as goal

pub returns-then-level-le4 : goal.returns-then-level-le4
unfolding frame_view
returns-then-level-le4 c =
    goes c.range_in.result _ _
    (right_to c.args.place c.args.opens c.args.op (expr_view c.args.left.expr) (expr_view c.args.part.expr) (stack_of c.args.pending.frames)
    (purpose_view c.args.pending.purpose) (omega (arith, c.rank-level.ensures)))
    c.range_in.ensures

pub returns : goal.returns
unfolding frame_view
returns c =
    goes_option c.refuse_behind.result Stuck _
    (right_stuck c.args.place c.args.opens c.args.op (expr_view c.args.left.expr) (expr_view c.args.part.expr) (stack_of c.args.pending.frames)
    (purpose_view c.args.pending.purpose) (omega (arith, c.rank-level.ensures)))
    c.refuse_behind.ensures
