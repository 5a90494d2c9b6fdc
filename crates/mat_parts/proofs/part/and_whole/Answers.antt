use Rattle.std.proofs.Common.{ap, ◌∙◌, arith}
use Rattle.mat_ast.specs.View.{args_view}
use Rattle.mat_ast.specs.Depth.{args_depth}
use Rattle.mat_parts.proofs.Views.{args_whole}
use Rattle.mat_grammar.proofs.Depths.{args_depth_whole}
use Rattle.mat_parts.proofs.part.and_whole.Goals as goal

pub returns : goal.returns
returns c = ap args_view c.in_ok-push.ensures.ok ∙ args_whole c.args.given.args

pub invariant_of-result : goal.invariant_of-result
invariant_of-result c = record { sized = omega (arith, ap args_depth (ap args_view c.in_ok-push.ensures.ok ∙ args_whole c.args.given.args), args_depth_whole (args_view c.args.given.args)) }
