use Rattle.std.proofs.Common.{ap, ◌∙◌, sym}
use Rattle.c_parts.specs.View.{frames_of, top_cast}
use Rattle.c_parts.proofs.Stacks.{stack_last}
use Rattle.c_moves.proofs.operand.top_cast.Goals as goal

pub returns-in-Some : goal.returns-in-Some
returns-in-Some c =
    c.cast_of.ensures (frames_of c.in-Some.field-0-1.now)
    ∙ sym (ap top_cast (ap frames_of c.in-Some.ensures.cases.0 ∙ stack_last c.in-Some.field-0-1.now c.in-Some.last.now))
