use Rattle.std.proofs.Common.{arith, ◌+◌, ◌∙◌, max}
use Rattle.mat_ast.specs.View.{rows_view}
use Rattle.mat_ast.specs.Depth.{rows_depth, row_depth}
use Rattle.mat_parts.specs.View.{cells_view}
use Rattle.mat_parts.specs.Pending.{purpose_view, stack_of}
use Rattle.mat_parse.proofs.Capped.{operand_capped}
use Rattle.mat_parse.proofs.least.line_deep.Goals as goal

pub returns : goal.returns
returns c = c.operand_deep.ensures
    ∙ operand_capped (stack_of c.args.pending.now.frames) (purpose_view c.args.pending.now.purpose) c.deeper.result
    (max (rows_depth (rows_view c.args.grid.now.rows)) (row_depth (cells_view c.args.line.now.cells)) + 1)
    (omega (arith, c.greater.ensures, c.deeper.ensures, c.args.grid.now.sized, c.args.line.now.sized))
