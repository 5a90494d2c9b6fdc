use Rattle.std.proofs.Common.{length}
use Rattle.mat_parts.proofs.stack.+is_inside.Given as goal

abbrev pub decreases-is_inside : goal.decreases-is_inside
decreases-is_inside l = length l.frames.now
