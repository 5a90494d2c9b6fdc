use Rattle.std.proofs.Common.{◌≡◌, ap, sym, refl}
use Rattle.fic_base.specs.declared.place.Place.{Place}
use Rattle.mat_ast.specs.Tree.{Exp}
use Rattle.mat_ast.specs.View.{expr_view}
use Rattle.mat_grammar.specs.declared.word.Word.{Word}
use Rattle.mat_parts.specs.declared.part.Given.{Given}
use Rattle.mat_parts.specs.declared.part.Grid.{Grid}
use Rattle.mat_parts.specs.declared.part.Line.{Line}
use Rattle.mat_parts.specs.declared.pending.Opened.{Opened}
use Rattle.mat_parts.specs.declared.pending.Frame.{Frame}
use Rattle.mat_parts.specs.declared.pending.Frame.TheVariants as frame
use Rattle.mat_grammar.specs.Machine.{Stack, Purpose, Stuck, ended_in}
use Rattle.mat_parts.specs.Pending.{stack_of, purpose_view, frame_view, caller_view}
use Rattle.mat_moves.proofs.Goes.{goes, goes_option}
use Rattle.mat_moves.proofs.operator.ended_in.Goals as goal

-- a frame that no word ends
not_ended : (f : Frame) (w : Word) (e : Exp) (st : Stack) (k : Purpose) → ((p : Place) → f ≡ frame.Inside p → ⊥)
    → ((o : Opened) (g : Given) → f ≡ frame.Call o g → ⊥)
    → ((p : Place) (g : Grid) (l : Line) → f ≡ frame.Cells p g l → ⊥) → Stuck ≡ ended_in w e (frame_view f) st k
unfolding frame_view ended_in
not_ended (frame.Inside p) w e st k i a c = absurd (i p refl)
not_ended (frame.Call o g) w e st k i a c = absurd (a o g refl)
not_ended (frame.Cells p g l) w e st k i a c = absurd (c p g l refl)
not_ended _ w e st k i a c = refl

pub returns-in-Inside : goal.returns-in-Inside
unfolding frame_view ended_in
returns-in-Inside c =
    goes c.closing.result _ _ (ap (λ f. ended_in c.args.word (expr_view c.args.part.expr) (frame_view f) (stack_of c.args.pending.frames)
    (purpose_view c.args.pending.purpose)) (sym c.in-Inside.is)) c.closing.ensures

pub returns-in-Call : goal.returns-in-Call
unfolding frame_view caller_view ended_in
returns-in-Call c =
    goes c.argued.result _ _ (ap (λ f. ended_in c.args.word (expr_view c.args.part.expr) (frame_view f) (stack_of c.args.pending.frames)
    (purpose_view c.args.pending.purpose)) (sym c.in-Call.is)) c.argued.ensures

pub returns-in-Cells : goal.returns-in-Cells
unfolding frame_view ended_in
returns-in-Cells c =
    goes c.cell_ended.result _ _ (ap (λ f. ended_in c.args.word (expr_view c.args.part.expr) (frame_view f) (stack_of c.args.pending.frames)
    (purpose_view c.args.pending.purpose)) (sym c.in-Cells.is)) c.cell_ended.ensures

pub returns-in_default : goal.returns-in_default
returns-in_default c =
    goes_option c.refuse_in.result Stuck _
    (not_ended c.args.frame c.args.word (expr_view c.args.part.expr) (stack_of c.args.pending.frames) (purpose_view c.args.pending.purpose)
    c.in_default.not-Inside c.in_default.not-Call c.in_default.not-Cells)
    c.refuse_in.ensures
