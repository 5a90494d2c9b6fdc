use Rattle.std.proofs.Common.{◌≡◌, ◌++◌, drop, map}
use Rattle.c_tree.specs.View.{slot_view}
use Rattle.c_tree.specs.Interface.{slots_text}
use Rattle.c_write.proofs.interface.put_slots.Given as goal

abbrev pub invariant-loop-slot : goal.invariant-loop-slot
invariant-loop-slot l = (l.out.items ++ slots_text (map slot_view (drop l.slot-index l.slots)) ≡ l.initial.out.items ++ slots_text (map slot_view l.slots))
