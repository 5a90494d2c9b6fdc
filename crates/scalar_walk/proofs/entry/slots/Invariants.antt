use Rattle.std.proofs.Common.{◌≡◌, ◌++◌, drop, map}
use Rattle.num_type.specs.View.{type_of}
use Rattle.c_tree.specs.View.{slot_view}
use Rattle.scalar_program.specs.Lowered.{real_slots}
use Rattle.scalar_walk.proofs.entry.slots.Given as goal

abbrev pub invariant-loop-k : goal.invariant-loop-k
invariant-loop-k l = real_slots l.names (map type_of l.types) ≡ map slot_view l.all ++ real_slots (drop l.k l.names) (map type_of (drop l.k l.types))
