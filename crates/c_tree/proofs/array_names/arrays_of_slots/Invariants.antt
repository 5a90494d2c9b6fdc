use Rattle.std.proofs.Common.{◌≡◌, ◌++◌, drop, map}
use Rattle.c_tree.specs.View.{slot_view}
use Rattle.c_tree.specs.Names.{Fronts, slots_arrays}
use Rattle.c_tree.proofs.array_names.arrays_of_slots.Given as goal

abbrev pub invariant-loop-slot : goal.invariant-loop-slot
invariant-loop-slot l =
    let fronts : Fronts = record { plain = l.plain; re = l.re; im = l.im } in
    (l.found ++ slots_arrays fronts (map slot_view (drop l.slot-index l.slots)) ≡ slots_arrays fronts (map slot_view l.slots))
