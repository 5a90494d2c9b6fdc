use Rattle.mat_ast.specs.View.{expr_view}
use Rattle.mat_parts.specs.Pending.{stack_of, purpose_view}
use Rattle.mat_moves.proofs.Goes.{goes, after_settle}
use Rattle.mat_moves.proofs.operator.after_part.Goals as goal

pub returns-in-Ok : goal.returns-in-Ok
returns-in-Ok c =
    goes c.settled.result _ _
    (after_settle c.args.place c.args.word c.args.own.now (expr_view c.args.part.expr) (expr_view c.in-Ok.part.expr) (stack_of c.args.pending.frames)
    (stack_of c.settle.new.stack) (purpose_view c.args.pending.purpose)
    c.tightness.result c.tightness.ensures c.in-Ok.ensures)
    c.settled.ensures
