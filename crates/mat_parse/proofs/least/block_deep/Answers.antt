use Rattle.std.proofs.Common.{arith, ◌∙◌}
use Rattle.mat_ast.specs.View.{block_view}
use Rattle.mat_ast.specs.Depth.{block_depth}
use Rattle.mat_parts.specs.Pending.{around_view}
use Rattle.mat_parse.proofs.Capped.{around_capped}
use Rattle.mat_parse.proofs.least.block_deep.Goals as goal

pub returns : goal.returns
returns c = c.around_deep.ensures ∙ around_capped (around_view c.args.around.now) c.args.steps.now.deep (block_depth (block_view c.args.steps.now.body))
    (omega (arith, c.args.steps.now.sized))
