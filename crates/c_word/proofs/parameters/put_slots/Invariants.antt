use Rattle.std.proofs.Common.{◌≡◌, drop, map}
use Rattle.c_tree.specs.View.{slot_view}
use Rattle.c_tree.specs.Names.{slots_arrays}
use Rattle.c_word.specs.Table.{array_rows, found_in, fronts_of, with_rows}
use Rattle.c_word.proofs.parameters.put_slots.Given as goal

abbrev pub invariant-loop-slot : goal.invariant-loop-slot
invariant-loop-slot l =
    (with_rows (found_in l.table) (array_rows l.side l.number (slots_arrays (fronts_of l.side) (map slot_view (drop l.slot-index l.slots))))
    ≡ with_rows (found_in l.initial.table) (array_rows l.side 0 (slots_arrays (fronts_of l.side) (map slot_view l.slots))))
