use Rattle.std.proofs.Common.{ap}
use Rattle.mat_ast.specs.View.{rows_view}
use Rattle.mat_grammar.specs.Machine.{celled}
use Rattle.mat_parts.specs.Pending.{stack_of, purpose_view}
use Rattle.mat_moves.proofs.Goes.{goes}
use Rattle.mat_moves.proofs.operator.cell_ended.Goals as goal

pub returns-in-Ok : goal.returns-in-Ok
returns-in-Ok c =
    goes c.celled.result _ _ (ap (λ row. celled c.args.word c.args.opens (rows_view c.args.grid.rows) row (stack_of c.args.pending.frames)
    (purpose_view c.args.pending.purpose)) c.in-Ok.ensures) c.celled.ensures
