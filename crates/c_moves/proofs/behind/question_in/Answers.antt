use Rattle.std.proofs.Common.{◌∷◌, ap, sym}
use Rattle.c_tree.specs.View.{expr_view}
use Rattle.c_grammar.specs.Machine.{Stuck, with_question}
use Rattle.c_parts.specs.View.{frame_view, frames_of, purpose_view, past_view}
use Rattle.c_moves.proofs.Goes.{goes, goes_option}
use Rattle.c_moves.proofs.Frames.{no_question}
use Rattle.c_moves.proofs.behind.question_in.Goals as goal

pub returns-in-InTest : goal.returns-in-InTest
unfolding frame_view
returns-in-InTest c =
    goes c.questioned.result _ _ (ap (λ f. with_question (expr_view c.args.e) (frame_view f ∷ frames_of c.args.pending.frames) (purpose_view c.args.pending.purpose) (past_view c.args.pending.past)) (sym c.in-InTest.is)) c.questioned.ensures

pub returns-in_default : goal.returns-in_default
returns-in_default c =
    goes_option c.refuse_in.result Stuck _
    (no_question (expr_view c.args.e) c.args.frame (frames_of c.args.pending.frames) (purpose_view c.args.pending.purpose) (past_view c.args.pending.past) c.in_default.not-InTest)
    c.refuse_in.ensures
