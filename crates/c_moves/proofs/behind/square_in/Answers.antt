use Rattle.std.proofs.Common.{◌∷◌, ap, sym}
use Rattle.c_tree.specs.View.{expr_view}
use Rattle.c_grammar.specs.Machine.{Stuck, with_square}
use Rattle.c_parts.specs.View.{frame_view, frames_of, purpose_view, past_view}
use Rattle.c_moves.proofs.Goes.{goes, goes_option}
use Rattle.c_moves.proofs.Frames.{no_square}
use Rattle.c_moves.proofs.behind.square_in.Goals as goal

pub returns-in-InElement : goal.returns-in-InElement
unfolding frame_view
returns-in-InElement c =
    goes c.subscripted.result _ _ (ap (λ f. with_square c.args.arrays.now (expr_view c.args.e) (frame_view f ∷ frames_of c.args.pending.frames) (purpose_view c.args.pending.purpose) (past_view c.args.pending.past)) (sym c.in-InElement.is)) c.subscripted.ensures

pub returns-in_default : goal.returns-in_default
returns-in_default c =
    goes_option c.refuse_in.result Stuck _
    (no_square c.args.arrays.now (expr_view c.args.e) c.args.frame (frames_of c.args.pending.frames) (purpose_view c.args.pending.purpose) (past_view c.args.pending.past) c.in_default.not-InElement)
    c.refuse_in.ensures
