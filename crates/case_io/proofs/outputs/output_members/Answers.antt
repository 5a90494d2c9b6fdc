use Rattle.std.proofs.Common.{◌≡◌, ◌+◌, ◌++◌, map, drop, length, vec_items, arith, sym, ap, ◌∙◌, subst}
use Rattle.c_tree.specs.View.{slot_view}
use Rattle.c_tree.specs.Names.{slots_arrays, output_fronts, is_complex}
use Rattle.case_io.specs.View.{members_view, member_view}
use Rattle.case_io.specs.ResultLines.{members, part_count, value_text}
use Rattle.case_io.proofs.Arrays.{left_at}
use Rattle.case_io.proofs.OutputMembers.{counted, one_more}
use Rattle.case_io.proofs.outputs.output_members.Goals as goal

pub loop-slot-preserved : goal.loop-slot-preserved
loop-slot-preserved c =
    let at = c.loop-slot.at in
    let lists = c.args.lists.now in
    let slot = slot_view c.slot-item.result in
    let more = map slot_view (drop (c.loop-slot.slot-index + 1) c.args.slots.now) in
    let left = ap (map slot_view) (left_at c.args.slots.now c.loop-slot.slot-index c.slot-item.result _ c.loop-slot-test.true c.slot-item.is) in
    let count : c.part_count-at.result ≡ part_count (is_complex slot.kind) = c.part_count-at.ensures ∙ ap part_count c.is_complex.ensures in
    let is : member_view c.in_ok-member.member ≡ record { name = slot.name; text = value_text (is_complex slot.kind) (map vec_items (drop at lists)) } =
    subst (λ ls. member_view c.in_ok-member.member ≡ record { name = slot.name; text = value_text (is_complex slot.kind) (map vec_items ls) }) c.split_at.ensures.back c.in_ok-member.ensures in
    record {
      made =
          (λ i. members_view (c.in_ok-push.ensures.items i) ++ members more (map vec_items (drop (at + count i) lists)))
          ∙ one_more c.loop-slot.members.items c.in_ok-member.member slot more lists at is
          ∙ (λ i. members_view c.loop-slot.members.items ++ members (sym left i) (map vec_items (drop at lists)))
          ∙ c.loop-slot.invariant.made;
      left = omega (arith, c.loop-slot.invariant.left, ap (λ l. length (slots_arrays output_fronts l)) left, counted slot more, count);
    }
