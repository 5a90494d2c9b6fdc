use Rattle.std.proofs.Common.{◌≡◌, ◌∷◌, ap, sym, refl}
use Rattle.fic_base.specs.declared.place.Place.{Place}
use Rattle.mat_ast.specs.declared.tree.UnOp.{UnOp}
use Rattle.mat_ast.specs.declared.tree.BinOp.{BinOp}
use Rattle.mat_ast.specs.Tree.{Exp}
use Rattle.mat_ast.specs.View.{expr_view}
use Rattle.mat_parts.specs.declared.part.Part.{Part}
use Rattle.mat_parts.specs.declared.pending.Frame.{Frame}
use Rattle.mat_parts.specs.declared.pending.Frame.TheVariants as frame
use Rattle.mat_grammar.specs.Machine.{Stack, Purpose, Stuck, with_to, with_colon}
use Rattle.mat_parts.specs.Pending.{stack_of, purpose_view, frame_view}
use Rattle.mat_moves.proofs.Goes.{goes, goes_option}
use Rattle.mat_moves.proofs.operator.colon_in.Goals as goal

-- a frame that a range may begin in
inner : (f : Frame) (at : Place) (e : Exp) (st : Stack) (k : Purpose) → ((p : Place) (a : Part) → f ≡ frame.To p a → ⊥)
    → ((p : Place) (o : BinOp) (a : Part) → f ≡ frame.Right p o a → ⊥)
    → ((p : Place) (a b : Part) → f ≡ frame.ByTo p a b → ⊥) → ((p : Place) (s : UnOp) → f ≡ frame.Sign p s → ⊥)
    → ((p : Place) (s : UnOp) → f ≡ frame.ExponentSign p s → ⊥)
    → with_to at e (frame_view f ∷ st) k ≡ with_colon at e (frame_view f ∷ st) k
unfolding frame_view with_colon
inner (frame.To p a) at e st k t r b s x = absurd (t p a refl)
inner (frame.Right p o a) at e st k t r b s x = absurd (r p o a refl)
inner (frame.ByTo p a c) at e st k t r b s x = absurd (b p a c refl)
inner (frame.Sign p m) at e st k t r b s x = absurd (s p m refl)
inner (frame.ExponentSign p m) at e st k t r b s x = absurd (x p m refl)
inner _ at e st k t r b s x = refl

pub returns-in-To : goal.returns-in-To
unfolding frame_view with_colon
returns-in-To c =
    goes c.range_by.result _ _ (ap (λ f. with_colon c.args.place (expr_view c.args.part.expr) (frame_view f ∷ stack_of c.args.pending.frames)
    (purpose_view c.args.pending.purpose)) (sym c.in-To.is)) c.range_by.ensures

pub returns-in-Right : goal.returns-in-Right
unfolding frame_view
returns-in-Right c =
    goes c.right_colon.result _ _ (ap (λ f. with_colon c.args.place (expr_view c.args.part.expr) (frame_view f ∷ stack_of c.args.pending.frames)
    (purpose_view c.args.pending.purpose)) (sym c.in-Right.is)) c.right_colon.ensures

pub returns-in-ByTo : goal.returns-in-ByTo
unfolding frame_view with_colon
returns-in-ByTo c =
    goes_option c.refuse_in.result Stuck _
    (ap (λ f. with_colon c.args.place (expr_view c.args.part.expr) (frame_view f ∷ stack_of c.args.pending.frames) (purpose_view c.args.pending.purpose))
    (sym c.in-ByTo.is)) c.refuse_in.ensures

pub returns-in-Sign : goal.returns-in-Sign
unfolding frame_view with_colon
returns-in-Sign c =
    goes_option c.refuse_in-in-Sign.result Stuck _
    (ap (λ f. with_colon c.args.place (expr_view c.args.part.expr) (frame_view f ∷ stack_of c.args.pending.frames) (purpose_view c.args.pending.purpose))
    (sym c.in-Sign.is)) c.refuse_in-in-Sign.ensures

pub returns-in-ExponentSign : goal.returns-in-ExponentSign
unfolding frame_view with_colon
returns-in-ExponentSign c =
    goes_option c.refuse_in-in-ExponentSign.result Stuck _
    (ap (λ f. with_colon c.args.place (expr_view c.args.part.expr) (frame_view f ∷ stack_of c.args.pending.frames) (purpose_view c.args.pending.purpose))
    (sym c.in-ExponentSign.is)) c.refuse_in-in-ExponentSign.ensures

pub returns-in_default : goal.returns-in_default
returns-in_default c =
    goes c.range_in.result _ _
    (inner c.args.frame c.args.place (expr_view c.args.part.expr) (stack_of c.args.pending.frames) (purpose_view c.args.pending.purpose)
    c.in_default.not-To c.in_default.not-Right c.in_default.not-ByTo c.in_default.not-Sign c.in_default.not-ExponentSign)
    c.range_in.ensures
