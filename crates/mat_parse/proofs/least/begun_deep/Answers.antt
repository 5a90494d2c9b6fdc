use Rattle.std.proofs.Common.{arith, ◌∙◌, max}
use Rattle.mat_ast.specs.View.{block_view}
use Rattle.mat_ast.specs.Depth.{block_depth}
use Rattle.mat_parts.specs.Pending.{around_view}
use Rattle.mat_parse.proofs.Capped.{around_capped}
use Rattle.mat_parse.proofs.least.begun_deep.Goals as goal

pub returns : goal.returns
returns c = c.around_deep.ensures ∙ around_capped (around_view c.args.around.now) c.greater.result (max (block_depth (block_view c.args.steps.now.body)) 2)
    (omega (arith, c.greater.ensures, c.args.steps.now.sized))
