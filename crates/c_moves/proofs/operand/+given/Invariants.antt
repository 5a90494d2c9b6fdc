use Rattle.std.proofs.Common.{length}
use Rattle.c_parts.specs.View.{frames_of}
use Rattle.c_moves.proofs.operand.+given.Given as goal

abbrev pub decreases-given : goal.decreases-given
decreases-given l = length (frames_of l.pending.frames)
