use Rattle.std.proofs.Common.{◌≡◌, ◌++◌, drop}
use Rattle.std.specs.Prelude.{flat_map, map}
use Rattle.c_tree.specs.View.{slot_view}
use Rattle.case_io.specs.Cases.{slot_ranges}
use Rattle.case_io.specs.View.{ranges_view}
use Rattle.case_io.proofs.ranges.input_ranges.Given as goal

abbrev pub invariant-loop-slot : goal.invariant-loop-slot
invariant-loop-slot l = flat_map slot_ranges (map slot_view l.slot-items) ≡ ranges_view l.ranges.items ++ flat_map slot_ranges (map slot_view (drop l.slot-index l.slot-items))
