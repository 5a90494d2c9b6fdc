use Rattle.std.proofs.Common.{ap, ◌∙◌, arith}
use Rattle.mat_ast.specs.View.{arms_view, block_view, expr_view}
use Rattle.mat_ast.specs.Depth.{arms_depth}
use Rattle.mat_parts.proofs.Views.{arms_push}
use Rattle.mat_grammar.proofs.Depths.{arms_depth_arm}
use Rattle.mat_parts.proofs.body.and_arm.Goals as goal

pub returns : goal.returns
returns c = ap arms_view c.in_ok-push.ensures.ok ∙ arms_push c.args.cases.arms c.args.condition.expr c.args.body.body

pub invariant_of-result : goal.invariant_of-result
invariant_of-result c = record { sized = omega (arith, ap arms_depth (ap arms_view c.in_ok-push.ensures.ok ∙ arms_push c.args.cases.arms c.args.condition.expr c.args.body.body), arms_depth_arm (arms_view c.args.cases.arms) (expr_view c.args.condition.expr) (block_view c.args.body.body)) }
