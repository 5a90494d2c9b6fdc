use Rattle.std.proofs.Common.{false, true, subst}
use Rattle.std.specs.Prelude.{Some, None}
use Rattle.c_token.specs.Line.{TestsFront, ReadsNext}
use Rattle.c_token.proofs.Reading.{ends_nowhere, went_on, ends_there}
use Rattle.c_token.proofs.slots.read_slots.Goals as goal

pub returns-in-None : goal.returns-in-None
returns-in-None c =
    ends_nowhere c.loop-alloc.slots c.loop-alloc.slots c.next_slot.new.slots c.loop-alloc.at c.args.start c.args.mark.now c.args.bytes.now c.loop-alloc.invariant
    (subst (TestsFront false c.args.mark.now) c.split_at.ensures.back c.loop-alloc-test.ensures)
    (subst (ReadsNext None c.loop-alloc.slots c.next_slot.new.slots) c.split_at-in-loop-alloc.ensures.back (rw c.in-None.is at c.in_ok-next_slot.ensures))

pub loop-alloc-preserved : goal.loop-alloc-preserved
loop-alloc-preserved c =
    went_on c.loop-alloc.slots c.next_slot.new.slots c.loop-alloc.at c.args.start c.in-Some.len c.args.mark.now c.args.bytes.now c.loop-alloc.invariant
    (subst (TestsFront false c.args.mark.now) c.split_at.ensures.back c.loop-alloc-test.ensures)
    (subst (ReadsNext (Some c.in-Some.len) c.loop-alloc.slots c.next_slot.new.slots) c.split_at-in-loop-alloc.ensures.back (rw c.in-Some.is at c.in_ok-next_slot.ensures))

pub returns : goal.returns
returns c =
    ends_there c.loop-alloc.slots c.loop-alloc.at c.args.start c.args.mark.now c.args.bytes.now c.loop-alloc.invariant
    (subst (TestsFront true c.args.mark.now) c.split_at.ensures.back c.loop-alloc-test.ensures)
