use Rattle.std.proofs.Common.{ℕ, List, ap}
use Rattle.std.specs.Prelude.{Option}
use Rattle.mat_grammar.specs.Machine.{with_text}
use Rattle.mat_parts.specs.Pending.{stack_of, purpose_view}
use Rattle.mat_moves.proofs.Goes.{goes_option}
use Rattle.mat_moves.proofs.expression.quoted.Goals as goal

pub returns-in-Ok : goal.returns-in-Ok
returns-in-Ok c =
    goes_option c.worded.result _ _ (ap (λ (o : Option (List ℕ)). with_text c.args.place o (stack_of c.args.pending.frames) (purpose_view c.args.pending.purpose)) c.in-Ok.ensures) c.worded.ensures
