use Rattle.std.proofs.Common.{ap}
use Rattle.mat_grammar.specs.Machine.{Listed, InValue}
use Rattle.mat_parts.specs.Pending.{stack_of, purpose_view, caller_view, state_view}
use Rattle.mat_moves.proofs.expression.colon_given.Goals as goal

pub returns-in-Ok : goal.returns-in-Ok
unfolding state_view caller_view
returns-in-Ok c = ap (λ args. Listed (InValue (stack_of c.args.pending.frames) (purpose_view c.args.pending.purpose)) c.args.opened.place c.args.opened.text c.args.opened.opens args) c.in-Ok.ensures
