use Rattle.std.proofs.Common.{arith, ◌∙◌}
use Rattle.mat_ast.specs.View.{args_view}
use Rattle.mat_ast.specs.Depth.{args_depth}
use Rattle.mat_parts.specs.Pending.{caller_view}
use Rattle.mat_parse.proofs.Capped.{caller_capped}
use Rattle.mat_parse.proofs.least.given_deep.Goals as goal

pub returns : goal.returns
returns c = c.caller_deep.ensures ∙ caller_capped (caller_view c.args.caller.now) c.args.given.now.deep (args_depth (args_view c.args.given.now.args))
    (omega (arith, c.args.given.now.sized))
