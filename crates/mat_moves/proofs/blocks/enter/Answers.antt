use Rattle.mat_ast.specs.View.{funcs_view}
use Rattle.mat_grammar.specs.Machine.{FunBody}
use Rattle.mat_parts.specs.Pending.{around_view, header_view}
use Rattle.mat_moves.proofs.Goes.{entered}
use Rattle.mat_moves.proofs.blocks.enter.Goals as goal

pub returns-in-Ok : goal.returns-in-Ok
unfolding around_view
returns-in-Ok c =
    entered c.args.around.bodies _ c.args.body
    (FunBody c.args.around.mode (funcs_view c.args.around.done.funcs.items) (header_view c.args.around.header))
    c.in-Ok.ensures.ok
