use Rattle.std.proofs.Common.{◌≡◌, length}
use Rattle.c_token.specs.Line.{differ}
use Rattle.c_token.proofs.slot.differ.Given as goal

abbrev pub invariant-loop-slot : goal.invariant-loop-slot
invariant-loop-slot l = differ l.rest ≡ differ l.slots

abbrev pub decreases-loop-slot : goal.decreases-loop-slot
decreases-loop-slot l = length l.rest
