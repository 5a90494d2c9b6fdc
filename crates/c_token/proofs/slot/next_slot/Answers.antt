use Rattle.c_token.proofs.Reading.{no_blank_behind, no_next, a_next}
use Rattle.c_token.proofs.slot.next_slot.Goals as goal

pub returns-in-None : goal.returns-in-None
returns-in-None c = no_blank_behind c.args.s.now c.in-None.ensures

pub returns-in-None-2 : goal.returns-in-None-2
returns-in-None-2 c =
    no_next c.args.s.now c.in-Some.word.now c.in-Some.field-0-1.now c.in-Some.ensures.0 c.in-Some.ensures.1 (rw c.in-None-2.is at c.in_ok-read_slot-in-Some.ensures)

pub returns-in_ok-push-in-Some-2 : goal.returns-in_ok-push-in-Some-2
returns-in_ok-push-in-Some-2 c =
    a_next c.args.s.now c.in-Some.word.now c.in-Some.field-0-1.now c.in-Some-2.slot c.args.slots.now c.push.new.self c.in-Some.ensures.0
    (rw c.in-Some-2.is at c.in_ok-read_slot-in-Some.ensures) c.in_ok-push-in-Some-2.ensures.ok
