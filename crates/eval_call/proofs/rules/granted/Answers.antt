use Rattle.std.proofs.Common.{map}
use Rattle.fi_rules.specs.Calls as rule
use Rattle.fi_rules.specs.View.{ty_view}
use Rattle.eval_call.proofs.Granting.{is_built, not_asked}
use Rattle.eval_call.proofs.rules.granted.Goals as goal

pub returns-in-Err : goal.returns-in-Err
returns-in-Err c = not_asked (rule.asked c.args.b (map ty_view c.args.types.now)) c.in-Err.field-0 c.in-Err.ensures

pub returns-in-Ok-build : goal.returns-in-Ok-build
returns-in-Ok-build c = is_built (rule.asked c.args.b (map ty_view c.args.types.now)) c.in-Ok.asked c.in-Ok-build.built c.in-Ok.ensures c.in-Ok-build.ensures
