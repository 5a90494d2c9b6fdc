use Rattle.std.proofs.Common.{ap, ◌∙◌, arith}
use Rattle.mat_ast.specs.View.{block_view, stmt_view}
use Rattle.mat_ast.specs.Depth.{block_depth}
use Rattle.mat_parts.proofs.Views.{block_push}
use Rattle.mat_grammar.proofs.Depths.{block_depth_statement}
use Rattle.mat_parts.proofs.body.and_step.Goals as goal

pub returns : goal.returns
returns c = ap block_view c.in_ok-push.ensures.ok ∙ block_push c.args.steps.body c.args.step.stmt

pub invariant_of-result : goal.invariant_of-result
invariant_of-result c = record { sized = omega (arith, ap block_depth (ap block_view c.in_ok-push.ensures.ok ∙ block_push c.args.steps.body c.args.step.stmt), block_depth_statement (block_view c.args.steps.body) (stmt_view c.args.step.stmt)) }
