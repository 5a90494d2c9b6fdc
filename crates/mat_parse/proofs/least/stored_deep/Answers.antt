use Rattle.std.proofs.Common.{arith, ◌+◌, ◌∙◌, max}
use Rattle.mat_ast.specs.View.{block_view, args_view}
use Rattle.mat_ast.specs.Depth.{args_depth, block_depth}
use Rattle.mat_parts.specs.Pending.{around_view}
use Rattle.mat_parse.proofs.Capped.{around_capped}
use Rattle.mat_parse.proofs.least.stored_deep.Goals as goal

pub returns : goal.returns
returns c = c.around_deep.ensures
    ∙ around_capped (around_view c.args.around.now) c.greater-2.result (max (block_depth (block_view c.args.steps.now.body))
    (max (args_depth (args_view c.args.given.now.args)) 1 + 1))
    (omega (arith, c.greater.ensures, c.deeper-inner.ensures, c.greater-2.ensures, c.args.steps.now.sized, c.args.given.now.sized))
