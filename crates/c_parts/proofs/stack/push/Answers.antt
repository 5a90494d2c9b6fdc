use Rattle.std.proofs.Common.{ap, ◌∙◌}
use Rattle.c_parts.specs.View.{frames_of}
use Rattle.c_parts.proofs.Stacks.{stack_last, on_ok}
use Rattle.c_parts.proofs.stack.push.Goals as goal

pub returns : goal.returns
returns c = on_ok c.push.result (λ e. ap frames_of e ∙ stack_last c.args.frames.now c.args.frame) c.push.ensures.ok
