use Rattle.mat_ast.specs.View.{block_view, funcs_view}
use Rattle.mat_grammar.specs.Machine.{FunBody}
use Rattle.mat_parts.specs.Pending.{around_view, header_view}
use Rattle.mat_moves.proofs.Goes.{goes, goes_option, inner_block, function_block}
use Rattle.mat_moves.proofs.blocks.block_ended.Goals as goal

pub returns-in_ok-funcs-in-None : goal.returns-in_ok-funcs-in-None
unfolding around_view header_view
returns-in_ok-funcs-in-None c =
    goes_option c.body_ended.result _ _
    (function_block c.args.word (block_view c.args.steps.body) c.args.around.bodies c.args.around.mode (funcs_view c.args.around.done.funcs.items)
    (funcs_view c.in_ok-funcs-in-None.funcs.funcs.items) (header_view c.args.around.header) c.in-None.ensures.0 c.in_ok-funcs-in-None.ensures)
    c.body_ended.ensures

pub returns-in-Some : goal.returns-in-Some
unfolding around_view
returns-in-Some c =
    goes c.inner_ended.result _ _
    (inner_block c.args.word (block_view c.args.steps.body) c.args.around.bodies c.leave.new.bodies c.in-Some.body
    (FunBody c.args.around.mode (funcs_view c.args.around.done.funcs.items) (header_view c.args.around.header)) c.in-Some.ensures)
    c.inner_ended.ensures
