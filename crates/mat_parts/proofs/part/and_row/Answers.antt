use Rattle.std.proofs.Common.{ap, ◌∙◌, arith}
use Rattle.mat_ast.specs.View.{rows_view}
use Rattle.mat_parts.specs.View.{cells_view}
use Rattle.mat_ast.specs.Depth.{rows_depth}
use Rattle.mat_parts.proofs.Views.{rows_push}
use Rattle.mat_grammar.proofs.Depths.{rows_depth_row}
use Rattle.mat_parts.proofs.part.and_row.Goals as goal

pub returns : goal.returns
returns c = ap rows_view c.in_ok-push.ensures.ok ∙ rows_push c.args.grid.rows c.args.line.cells

pub invariant_of-result : goal.invariant_of-result
invariant_of-result c = record { sized = omega (arith, ap rows_depth (ap rows_view c.in_ok-push.ensures.ok ∙ rows_push c.args.grid.rows c.args.line.cells), rows_depth_row (rows_view c.args.grid.rows) (cells_view c.args.line.cells)) }
