use Rattle.std.proofs.Common.{◌-◌, length}
use Rattle.c_token.proofs.Reading.{Along}
use Rattle.c_token.proofs.slots.read_slots.Given as goal

abbrev pub invariant-loop-alloc : goal.invariant-loop-alloc
invariant-loop-alloc l = Along l.slots l.at l.start l.mark l.bytes

abbrev pub decreases-loop-alloc : goal.decreases-loop-alloc
decreases-loop-alloc l = length l.bytes - l.at
