use Rattle.std.proofs.Common.{ap, ◌∙◌}
use Rattle.mat_parts.specs.Pending.{stack_of}
use Rattle.mat_parts.proofs.Stacks.{stack_last, on_ok}
use Rattle.mat_parts.proofs.stack.push.Goals as goal

pub returns : goal.returns
returns c = on_ok c.push.result (λ e. ap stack_of e ∙ stack_last c.args.stack.now c.args.frame) c.push.ensures.ok
