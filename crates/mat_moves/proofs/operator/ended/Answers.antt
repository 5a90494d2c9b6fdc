use Rattle.std.proofs.Common.{ℕ, List, [], ◌∷◌, ◌≡◌, ◌∙◌, ap, sym, subst}
use Rattle.std.specs.Prelude.{MatchOption, Option, Some, None}
use Rattle.fic_base.specs.declared.place.Place.{Place}
use Rattle.mat_ast.specs.Tree.{Exp}
use Rattle.mat_ast.specs.View.{expr_view}
use Rattle.mat_grammar.specs.declared.word.Word.{Word}
use Rattle.mat_parts.specs.declared.pending.Frame.{Frame}
use Rattle.mat_grammar.specs.Machine.{Stack, Purpose, purposed, ended_in, ended}
use Rattle.mat_parts.specs.Pending.{stack_of, purpose_view, frame_view}
use Rattle.mat_moves.proofs.Goes.{goes}
use Rattle.mat_moves.proofs.operator.ended.Goals as goal

bare : (r : Option Frame) (old new : Stack) → r ≡ None → MatchOption r ((old ≡ []) × (new ≡ [])) (λ f. old ≡ frame_view f ∷ new) → (old ≡ []) × (new ≡ [])
bare r old new i h = subst (λ x. MatchOption x ((old ≡ []) × (new ≡ [])) (λ f. old ≡ frame_view f ∷ new)) i h

framed : (r : Option Frame) (f : Frame) (old new : Stack) → r ≡ Some f → MatchOption r ((old ≡ []) × (new ≡ [])) (λ g. old ≡ frame_view g ∷ new)
    → old ≡ frame_view f ∷ new
framed r f old new i h = subst (λ x. MatchOption x ((old ≡ []) × (new ≡ [])) (λ g. old ≡ frame_view g ∷ new)) i h

no_frame : (at : Place) (w : Word) (own : List ℕ) (e : Exp) (r : Option Frame) (old new : Stack) (k l : Purpose) → r ≡ None → l ≡ k
    → MatchOption r ((old ≡ []) × (new ≡ [])) (λ f. old ≡ frame_view f ∷ new)
    → purposed at w own e l ≡ ended at w own e old k
unfolding ended
no_frame at w own e r old new k l i p h = ap (purposed at w own e) p ∙ ap (λ st. ended at w own e st k) (sym ((bare r old new i h).0))

in_frame : (at : Place) (w : Word) (own : List ℕ) (e : Exp) (r : Option Frame) (f : Frame) (old new : Stack) (k l : Purpose) → r ≡ Some f → l ≡ k
    → MatchOption r ((old ≡ []) × (new ≡ [])) (λ g. old ≡ frame_view g ∷ new)
    → ended_in w e (frame_view f) new l ≡ ended at w own e old k
unfolding ended
in_frame at w own e r f old new k l i p h = ap (ended_in w e (frame_view f) new) p ∙ ap (λ st. ended at w own e st k) (sym (framed r f old new i h))

pub returns-in-None : goal.returns-in-None
returns-in-None c =
    goes c.purposed.result _ _
    (no_frame c.args.place c.args.word c.args.own.now (expr_view c.args.part.expr) c.taken-frame.result.0 (stack_of c.args.pending.frames)
    (stack_of c.taken-frame.result.1.frames) (purpose_view c.args.pending.purpose) (purpose_view c.purpose_of.result)
    c.in-None.is (ap purpose_view (c.purpose_of.ensures ∙ c.taken-frame.ensures.purpose)) c.taken-frame.ensures.frame)
    c.purposed.ensures

pub returns-in-Some : goal.returns-in-Some
returns-in-Some c =
    goes c.ended_in.result _ _
    (in_frame c.args.place c.args.word c.args.own.now (expr_view c.args.part.expr) c.taken-frame.result.0 c.in-Some.frame (stack_of c.args.pending.frames)
    (stack_of c.taken-frame.result.1.frames) (purpose_view c.args.pending.purpose) (purpose_view c.taken-frame.result.1.purpose)
    c.in-Some.is (ap purpose_view c.taken-frame.ensures.purpose) c.taken-frame.ensures.frame)
    c.ended_in.ensures
