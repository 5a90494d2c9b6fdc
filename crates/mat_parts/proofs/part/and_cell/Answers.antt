use Rattle.std.proofs.Common.{ap, ◌∙◌, arith}
use Rattle.mat_ast.specs.View.{expr_view}
use Rattle.mat_parts.specs.View.{cells_view}
use Rattle.mat_ast.specs.Depth.{row_depth}
use Rattle.mat_parts.proofs.Views.{cells_push}
use Rattle.mat_grammar.proofs.Depths.{row_depth_cell}
use Rattle.mat_parts.proofs.part.and_cell.Goals as goal

pub returns : goal.returns
returns c = ap cells_view c.in_ok-push.ensures.ok ∙ cells_push c.args.line.cells c.args.part.expr

pub invariant_of-result : goal.invariant_of-result
invariant_of-result c = record { sized = omega (arith, ap row_depth (ap cells_view c.in_ok-push.ensures.ok ∙ cells_push c.args.line.cells c.args.part.expr), row_depth_cell (cells_view c.args.line.cells) (expr_view c.args.part.expr)) }
