use Rattle.std.proofs.Common.{◌∷◌, ap, sym}
use Rattle.c_tree.specs.View.{test_view}
use Rattle.c_grammar.specs.Machine.{Stuck, close_test}
use Rattle.c_parts.specs.View.{frame_view, frames_of, purpose_view, past_view}
use Rattle.c_moves.proofs.Goes.{goes, goes_option}
use Rattle.c_moves.proofs.Frames.{no_test}
use Rattle.c_moves.proofs.behind.test_in.Goals as goal

pub returns-in-InCast : goal.returns-in-InCast
unfolding frame_view
returns-in-InCast c =
    goes c.test_under.result _ _ (ap (λ f. close_test (test_view c.args.test) (frame_view f ∷ frames_of c.args.pending.frames) (purpose_view c.args.pending.purpose) (past_view c.args.pending.past)) (sym c.in-InCast.is)) c.test_under.ensures

pub returns-in_default : goal.returns-in_default
returns-in_default c =
    goes_option c.refuse_test.result Stuck _
    (no_test (test_view c.args.test) c.args.frame (frames_of c.args.pending.frames) (purpose_view c.args.pending.purpose) (past_view c.args.pending.past) c.in_default.not-InCast)
    c.refuse_test.ensures
