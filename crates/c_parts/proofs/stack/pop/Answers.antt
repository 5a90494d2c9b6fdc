use Rattle.c_parts.proofs.Stacks.{popped}
use Rattle.c_parts.proofs.stack.pop.Goals as goal

pub returns : goal.returns
returns c = popped c.pop.result c.args.frames.now c.pop.new.self c.pop.ensures
