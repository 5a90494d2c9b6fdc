use Rattle.std.proofs.Common.{ap, ◌∙◌, arith}
use Rattle.mat_ast.specs.View.{args_view, expr_view}
use Rattle.mat_ast.specs.Depth.{args_depth}
use Rattle.mat_parts.proofs.Views.{args_item}
use Rattle.mat_grammar.proofs.Depths.{args_depth_item}
use Rattle.mat_parts.proofs.part.and_item.Goals as goal

pub returns : goal.returns
returns c = ap args_view c.in_ok-push.ensures.ok ∙ args_item c.args.given.args c.args.part.expr

pub invariant_of-result : goal.invariant_of-result
invariant_of-result c = record { sized = omega (arith, ap args_depth (ap args_view c.in_ok-push.ensures.ok ∙ args_item c.args.given.args c.args.part.expr), args_depth_item (args_view c.args.given.args) (expr_view c.args.part.expr)) }
