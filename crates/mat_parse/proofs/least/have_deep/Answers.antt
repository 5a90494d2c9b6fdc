use Rattle.std.proofs.Common.{arith, ◌∙◌}
use Rattle.mat_ast.specs.View.{expr_view}
use Rattle.mat_ast.specs.Depth.{depth}
use Rattle.mat_parts.specs.Pending.{purpose_view, stack_of}
use Rattle.mat_parse.proofs.Capped.{operand_capped}
use Rattle.mat_parse.proofs.least.have_deep.Goals as goal

pub returns : goal.returns
returns c = c.operand_deep.ensures ∙ operand_capped (stack_of c.args.pending.now.frames) (purpose_view c.args.pending.now.purpose) c.args.part.now.deep
    (depth (expr_view c.args.part.now.expr)) (omega (arith, c.args.part.now.sized))
