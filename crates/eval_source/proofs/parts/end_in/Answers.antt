use Rattle.eval_source.specs.View.{env_view}
use Rattle.eval_source.proofs.Follow.{no_extent, has_extent}
use Rattle.eval_source.proofs.parts.end_in.Goals as goal

pub returns-in-None : goal.returns-in-None
returns-in-None c = no_extent c.get.result (env_view c.args.names.now c.args.name.now) c.args.number c.args.many c.get.ensures c.in-None.is

pub returns-in-Some : goal.returns-in-Some
returns-in-Some c =
    has_extent c.get.result (env_view c.args.names.now c.args.name.now) c.in-Some.v c.extent.result c.args.number c.args.many c.get.ensures c.in-Some.is c.extent.ensures
