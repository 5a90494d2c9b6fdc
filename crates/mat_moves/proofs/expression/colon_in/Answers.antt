use Rattle.std.proofs.Common.{◌≡◌, ◌∷◌, ap, sym}
use Rattle.mat_grammar.specs.Machine.{Stuck, with_colon_item}
use Rattle.mat_parts.specs.Pending.{stack_of, purpose_view, frame_view}
use Rattle.mat_moves.proofs.Goes.{goes, goes_option, no_call}
use Rattle.mat_moves.proofs.expression.colon_in.Goals as goal

pub returns-in-Call : goal.returns-in-Call
unfolding frame_view with_colon_item
returns-in-Call c =
    goes c.colon_given.result _ _ (ap (λ f. with_colon_item (frame_view f ∷ stack_of c.args.pending.frames) (purpose_view c.args.pending.purpose)) (sym c.in-Call.is)) c.colon_given.ensures

pub returns-in_default : goal.returns-in_default
returns-in_default c =
    goes_option c.refuse_in.result Stuck _ (no_call c.args.frame (stack_of c.args.pending.frames) (purpose_view c.args.pending.purpose) c.in_default.not-Call) c.refuse_in.ensures
