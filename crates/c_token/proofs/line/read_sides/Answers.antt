use Rattle.c_token.proofs.Sides.{sides}
use Rattle.c_token.proofs.line.read_sides.Goals as goal

pub returns-in_ok-r-in-Some : goal.returns-in_ok-r-in-Some
returns-in_ok-r-in-Some c =
    sides c.in_ok-r-in-Some.r c.args.entry.now c.read_slots.new.slots c.args.start c.in-Some.at c.args.bytes.now (rw c.in-Some.is at c.in_ok-read_slots.ensures) c.in_ok-r-in-Some.ensures
