use Rattle.std.proofs.Common.{length}
use Rattle.mat_parts.specs.Pending.{stack_of}
use Rattle.mat_parts.proofs.stack.+settle.Given as goal

abbrev pub decreases-settle : goal.decreases-settle
decreases-settle l = length (stack_of l.stack.now)
