use Rattle.std.proofs.Common.{arith, ◌+◌, ◌∙◌}
use Rattle.mat_ast.specs.View.{rows_view}
use Rattle.mat_ast.specs.Depth.{rows_depth}
use Rattle.mat_parts.specs.Pending.{purpose_view, stack_of}
use Rattle.mat_parse.proofs.Capped.{operand_capped}
use Rattle.mat_parse.proofs.least.grid_deep.Goals as goal

pub returns : goal.returns
returns c = c.operand_deep.ensures ∙ operand_capped (stack_of c.args.pending.now.frames) (purpose_view c.args.pending.now.purpose) c.deeper.result
    (rows_depth (rows_view c.args.grid.now.rows) + 1) (omega (arith, c.deeper.ensures, c.args.grid.now.sized))
