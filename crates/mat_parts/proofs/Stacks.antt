-- Frames and bodies of the code, as contracts see them.
use Rattle.std.proofs.Common.{◌≡◌, ℕ, ◌<◌, true, false, List, [], ◌∷◌, ◌++◌, refl, ap, sym, ◌∙◌, subst}
use Rattle.std.specs.Prelude.{MatchOption, Option, Some, None, OnOk, Result, Ok, Err}
use Rattle.mat_parts.specs.declared.pending.Frame.{Frame}
use Rattle.mat_parts.specs.declared.pending.Body.{Body}
use Rattle.mat_ast.specs.Tree.{Exp}
use Rattle.mat_grammar.specs.Machine.{Stack, closed, level, top, settle, Operand, is_call, inside, Call, Sign}
use Rattle.mat_grammar.specs.Machine as machine
use Rattle.mat_parts.specs.Pending.{frame_view, onto, stack_of, body_view, within_bodies}
use Rattle.mat_grammar.proofs.Settle.{settle_on}

onto_last : (fs : List Frame) (f : Frame) (st : Stack) → onto (fs ++ f ∷ []) st ≡ frame_view f ∷ onto fs st
onto_last [] f st = refl
onto_last (g ∷ fs) f st = onto_last fs f (frame_view g ∷ st)

pub stack_last : (fs : List Frame) (f : Frame) → stack_of (fs ++ f ∷ []) ≡ frame_view f ∷ stack_of fs
unfolding stack_of
stack_last fs f = onto_last fs f []

pub popped : (r : Option Frame) (old new : List Frame) → MatchOption r ((old ≡ []) × (new ≡ [])) (λ last. old ≡ new ++ last ∷ [])
    → MatchOption r ((stack_of old ≡ []) × (stack_of new ≡ [])) (λ f. stack_of old ≡ frame_view f ∷ stack_of new)
unfolding stack_of
popped None old new h = (ap stack_of h.0, ap stack_of h.1)
popped (Some f) old new h = ap stack_of h ∙ stack_last new f

pub settle_goes : (r : ℕ) (old : Stack) (f : machine.Frame) (e made : Exp) (st : Stack) → old ≡ f ∷ st → made ≡ closed f e → r < top old → settle r e old ≡ settle r made st
settle_goes r old f e made st eq k h =
    ap (settle r e) eq ∙ settle_on r e f st (subst (λ z. r < top z) eq h) ∙ ap (λ x. settle r x st) (sym k)

pub on_ok : {X E P Q : Type 0} (r : Result X E) → (P → Q) → OnOk r P → OnOk r Q
on_ok (Ok x) f h = f h
on_ok (Err e) f h = h

pub bodies_last : (bs : List Body) (b : Body) (out : machine.Around) → within_bodies (bs ++ b ∷ []) out ≡ body_view b (within_bodies bs out)
bodies_last [] b out = refl
bodies_last (c ∷ bs) b out = bodies_last bs b (body_view c out)

inside_call : (f : machine.Frame) (st : Stack) (k : machine.Purpose) → is_call f ≡ true → inside (f ∷ st) k ≡ true
inside_call (Call at text opens args) st k h = refl
inside_call (Sign at sign) st k h = absurd (cc)
inside_call _ st k h = absurd (cc)

inside_other : (f : machine.Frame) (st : Stack) (k : machine.Purpose) → is_call f ≡ false → inside (f ∷ st) k ≡ inside st k
inside_other (Call at text opens args) st k h = absurd (cc)
inside_other _ st k h = refl

pub inside_last : (frames rest : List Frame) (last : Frame) (k : machine.Purpose) → frames ≡ rest ++ last ∷ [] → is_call (frame_view last) ≡ true → true ≡ inside (stack_of frames) k
inside_last frames rest last k e h = sym (ap (λ st. inside st k) (ap stack_of e ∙ stack_last rest last) ∙ inside_call (frame_view last) (stack_of rest) k h)

pub inside_rest : (frames rest : List Frame) (last : Frame) (k : machine.Purpose) → frames ≡ rest ++ last ∷ [] → is_call (frame_view last) ≡ false → inside (stack_of rest) k ≡ inside (stack_of frames) k
inside_rest frames rest last k e h = sym (ap (λ st. inside st k) (ap stack_of e ∙ stack_last rest last) ∙ inside_other (frame_view last) (stack_of rest) k h)
