use Rattle.std.proofs.Common.{[], ◌∷◌, ◌≡◌, ◌∙◌, ap, sym, subst}
use Rattle.std.specs.Prelude.{MatchOption, Option, Some, None}
use Rattle.fic_base.specs.declared.place.Place.{Place}
use Rattle.mat_ast.specs.Tree.{Exp}
use Rattle.mat_ast.specs.View.{expr_view}
use Rattle.mat_parts.specs.declared.pending.Frame.{Frame}
use Rattle.mat_grammar.specs.Machine.{Stack, Purpose, with_to, with_colon}
use Rattle.mat_parts.specs.Pending.{stack_of, purpose_view, frame_view}
use Rattle.mat_moves.proofs.Goes.{goes, none_to}
use Rattle.mat_moves.proofs.operator.colon.Goals as goal

bare : (r : Option Frame) (old new : Stack) → r ≡ None → MatchOption r ((old ≡ []) × (new ≡ [])) (λ f. old ≡ frame_view f ∷ new) → (old ≡ []) × (new ≡ [])
bare r old new i h = subst (λ x. MatchOption x ((old ≡ []) × (new ≡ [])) (λ f. old ≡ frame_view f ∷ new)) i h

framed : (r : Option Frame) (f : Frame) (old new : Stack) → r ≡ Some f → MatchOption r ((old ≡ []) × (new ≡ [])) (λ g. old ≡ frame_view g ∷ new)
    → old ≡ frame_view f ∷ new
framed r f old new i h = subst (λ x. MatchOption x ((old ≡ []) × (new ≡ [])) (λ g. old ≡ frame_view g ∷ new)) i h

no_frame : (at : Place) (e : Exp) (r : Option Frame) (old new : Stack) (k l : Purpose) → r ≡ None → l ≡ k
    → MatchOption r ((old ≡ []) × (new ≡ [])) (λ f. old ≡ frame_view f ∷ new) → with_to at e new l ≡ with_colon at e old k
no_frame at e r old new k l i p h = ap (with_to at e new) p ∙ none_to at e old new k (bare r old new i h).0 (bare r old new i h).1

in_frame : (at : Place) (e : Exp) (r : Option Frame) (f : Frame) (old new : Stack) (k l : Purpose) → r ≡ Some f → l ≡ k
    → MatchOption r ((old ≡ []) × (new ≡ [])) (λ g. old ≡ frame_view g ∷ new)
    → with_colon at e (frame_view f ∷ new) l ≡ with_colon at e old k
in_frame at e r f old new k l i p h = ap (with_colon at e (frame_view f ∷ new)) p ∙ ap (λ st. with_colon at e st k) (sym (framed r f old new i h))

pub returns-in-None : goal.returns-in-None
returns-in-None c =
    goes c.range_to.result _ _
    (no_frame c.args.place (expr_view c.args.part.expr) c.taken-frame.result.0 (stack_of c.args.pending.frames) (stack_of c.taken-frame.result.1.frames)
    (purpose_view c.args.pending.purpose) (purpose_view c.taken-frame.result.1.purpose)
    c.in-None.is (ap purpose_view c.taken-frame.ensures.purpose) c.taken-frame.ensures.frame)
    c.range_to.ensures

pub returns-in-Some : goal.returns-in-Some
returns-in-Some c =
    goes c.colon_in.result _ _
    (in_frame c.args.place (expr_view c.args.part.expr) c.taken-frame.result.0 c.in-Some.frame (stack_of c.args.pending.frames)
    (stack_of c.taken-frame.result.1.frames) (purpose_view c.args.pending.purpose) (purpose_view c.taken-frame.result.1.purpose)
    c.in-Some.is (ap purpose_view c.taken-frame.ensures.purpose) c.taken-frame.ensures.frame)
    c.colon_in.ensures
