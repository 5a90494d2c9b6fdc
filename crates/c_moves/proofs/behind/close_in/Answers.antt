use Rattle.std.proofs.Common.{◌∷◌, ◌∙◌, ap, sym}
use Rattle.c_tree.specs.Tree.{Choose}
use Rattle.c_tree.specs.View.{expr_view}
use Rattle.c_grammar.specs.Machine.{Stuck, close_test, give, with_close}
use Rattle.c_parts.specs.View.{frame_view, frames_of, purpose_view, past_view}
use Rattle.c_moves.proofs.Goes.{goes, goes_option}
use Rattle.c_moves.proofs.Frames.{no_close}
use Rattle.c_moves.proofs.behind.close_in.Goals as goal

pub returns-in-InNeg : goal.returns-in-InNeg
unfolding frame_view
returns-in-InNeg c =
    goes c.negated.result _ _ (ap (λ f. with_close (expr_view c.args.e) c.args.t (frame_view f ∷ frames_of c.args.pending.frames) (purpose_view c.args.pending.purpose) (past_view c.args.pending.past)) (sym c.in-InNeg.is)) c.negated.ensures

pub returns-in-InBinary : goal.returns-in-InBinary
unfolding frame_view
returns-in-InBinary c =
    goes c.operation.result _ _ (ap (λ f. with_close (expr_view c.args.e) c.args.t (frame_view f ∷ frames_of c.args.pending.frames) (purpose_view c.args.pending.purpose) (past_view c.args.pending.past)) (sym c.in-InBinary.is)) c.operation.ensures

pub returns-in-InTest : goal.returns-in-InTest
unfolding frame_view
returns-in-InTest c =
    goes c.closed_test.result _ _
    (ap (λ x. close_test x (frames_of c.args.pending.frames) (purpose_view c.args.pending.purpose) (past_view c.args.pending.past)) c.compare.ensures
    ∙ ap (λ f. with_close (expr_view c.args.e) c.args.t (frame_view f ∷ frames_of c.args.pending.frames) (purpose_view c.args.pending.purpose) (past_view c.args.pending.past)) (sym c.in-InTest.is))
    c.closed_test.ensures

pub returns-in-InElse : goal.returns-in-InElse
unfolding frame_view
returns-in-InElse c =
    goes c.chosen.result _ _
    (ap (λ x. give (Choose x (expr_view c.in-InElse.first) (expr_view c.args.e)) c.in-InElse.u (frames_of c.args.pending.frames) (purpose_view c.args.pending.purpose) (past_view c.args.pending.past)) c.compare-in-InElse.ensures
    ∙ ap (λ f. with_close (expr_view c.args.e) c.args.t (frame_view f ∷ frames_of c.args.pending.frames) (purpose_view c.args.pending.purpose) (past_view c.args.pending.past)) (sym c.in-InElse.is))
    c.chosen.ensures

pub returns-in_default : goal.returns-in_default
returns-in_default c =
    goes_option c.refuse_in.result Stuck _
    (no_close (expr_view c.args.e) c.args.t c.args.frame (frames_of c.args.pending.frames) (purpose_view c.args.pending.purpose) (past_view c.args.pending.past) c.in_default.not-InNeg c.in_default.not-InBinary c.in_default.not-InTest c.in_default.not-InElse)
    c.refuse_in.ensures
