use Rattle.eval_value.specs.View.{value_view}
use Rattle.eval_call.proofs.Extents.{extent_some}
use Rattle.eval_call.proofs.filling.extent.Goals as goal

pub returns-then-n-gt0-clause-value : goal.returns-then-n-gt0-clause-value
returns-then-n-gt0-clause-value c = extent_some (value_view c.args.value.now) c.in-Some.n c.in-Some.ensures c.if-n-gt0.true
