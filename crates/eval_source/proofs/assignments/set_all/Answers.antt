use Rattle.eval_source.specs.View.{env_view}
use Rattle.eval_source.proofs.Targets.{unnamed}
use Rattle.eval_source.proofs.assignments.set_all.Goals as goal

pub returns : goal.returns
returns c = unnamed c.args.at c.args.targets.now c.args.values.items c.as_slice.result.now (env_view c.args.names.now) c.as_slice.ensures.value c.if-targets-as_slice.false
