use Rattle.std.proofs.Common.{◌≡◌, ◌++◌, ◌+◌, map, drop, length, vec_items}
use Rattle.c_tree.specs.View.{slot_view}
use Rattle.c_tree.specs.Names.{slots_arrays, output_fronts}
use Rattle.case_io.specs.View.{members_view}
use Rattle.case_io.specs.ResultLines.{members}
use Rattle.case_io.proofs.outputs.output_members.Given as goal

abbrev pub invariant-loop-slot : goal.invariant-loop-slot
invariant-loop-slot l = record {
  made : members_view l.members.items ++ members (map slot_view (drop l.slot-index l.slots)) (map vec_items (drop l.at l.lists)) ≡ members (map slot_view l.slots) (map vec_items l.lists);
  left : length l.lists ≡ l.at + length (slots_arrays output_fronts (map slot_view (drop l.slot-index l.slots)));
}
