use Rattle.std.proofs.Common.{sym, ◌∙◌}
use Rattle.mat_parts.specs.Pending.{purpose_view}
use Rattle.mat_parts.proofs.Stacks.{inside_last, inside_rest}
use Rattle.mat_parts.proofs.stack.+is_inside.Goals as goal

pub returns-then-is_call : goal.returns-then-is_call
returns-then-is_call t c = inside_last c.args.frames.now c.in-Some.rest.now c.in-Some.last.now (purpose_view c.args.purpose.now) c.in-Some.ensures.cases.0 (sym c.is_call.ensures ∙ c.if-is_call.true)

pub returns-else-is_call : goal.returns-else-is_call
returns-else-is_call t c = c.is_inside.ensures ∙ inside_rest c.args.frames.now c.in-Some.rest.now c.in-Some.last.now (purpose_view c.args.purpose.now) c.in-Some.ensures.cases.0 (sym c.is_call.ensures ∙ c.if-is_call.false)
