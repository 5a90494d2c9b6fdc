use Rattle.c_depth.proofs.Walk.{on_ok, pushed}
use Rattle.c_depth.proofs.level.push.Goals as goal

pub returns : goal.returns
returns c = on_ok c.push.result (pushed c.args.outer.now c.push.new.self c.args.base) c.push.ensures.ok
