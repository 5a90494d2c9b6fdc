use Rattle.std.proofs.Common.{◌∷◌, ap, sym}
use Rattle.c_tree.specs.View.{expr_view}
use Rattle.c_grammar.specs.Machine.{Stuck, with_colon}
use Rattle.c_parts.specs.View.{frame_view, frames_of, want_view, purpose_view, past_view}
use Rattle.c_moves.proofs.Goes.{goes, goes_option}
use Rattle.c_moves.proofs.Frames.{no_colon}
use Rattle.c_moves.proofs.behind.colon_in.Goals as goal

pub returns-in-InThen : goal.returns-in-InThen
unfolding frame_view want_view
returns-in-InThen c =
    goes c.wait.result _ _ (ap (λ f. with_colon (expr_view c.args.e) c.args.t (frame_view f ∷ frames_of c.args.pending.frames) (purpose_view c.args.pending.purpose) (past_view c.args.pending.past)) (sym c.in-InThen.is)) c.wait.ensures

pub returns-in_default : goal.returns-in_default
returns-in_default c =
    goes_option c.refuse_in.result Stuck _
    (no_colon (expr_view c.args.e) c.args.t c.args.frame (frames_of c.args.pending.frames) (purpose_view c.args.pending.purpose) (past_view c.args.pending.past) c.in_default.not-InThen)
    c.refuse_in.ensures
