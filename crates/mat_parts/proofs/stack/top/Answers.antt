use Rattle.std.proofs.Common.{ap, ◌∙◌, sym}
use Rattle.mat_parts.specs.Pending.{stack_of}
use Rattle.mat_grammar.specs.Machine.{top}
use Rattle.mat_parts.proofs.Stacks.{stack_last}
use Rattle.mat_parts.proofs.stack.top.Goals as goal

pub returns-in-Some : goal.returns-in-Some
returns-in-Some c = c.level.ensures ∙ sym (ap top (ap stack_of c.in-Some.ensures.cases.0 ∙ stack_last c.in-Some.field-0-1.now c.in-Some.last.now))
