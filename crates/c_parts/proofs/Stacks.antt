-- Frames of the code, as contracts see them.
use Rattle.std.proofs.Common.{◌≡◌, List, [], ◌∷◌, ◌++◌, refl, ap, ◌∙◌}
use Rattle.std.specs.Prelude.{MatchOption, Option, Some, None, OnOk, Result, Ok, Err}
use Rattle.c_parts.specs.declared.pending.Frame.{Frame}
use Rattle.c_grammar.specs.Machine as machine
use Rattle.c_parts.specs.View.{frame_view, onto, frames_of}

onto_last : (fs : List Frame) (f : Frame) (st : List machine.Frame) → onto (fs ++ f ∷ []) st ≡ frame_view f ∷ onto fs st
onto_last [] f st = refl
onto_last (g ∷ fs) f st = onto_last fs f (frame_view g ∷ st)

pub stack_last : (fs : List Frame) (f : Frame) → frames_of (fs ++ f ∷ []) ≡ frame_view f ∷ frames_of fs
unfolding frames_of
stack_last fs f = onto_last fs f []

pub popped : (r : Option Frame) (old new : List Frame) → MatchOption r ((old ≡ []) × (new ≡ [])) (λ last. old ≡ new ++ last ∷ [])
    → MatchOption r ((frames_of old ≡ []) × (frames_of new ≡ [])) (λ f. frames_of old ≡ frame_view f ∷ frames_of new)
unfolding frames_of
popped None old new h = (ap frames_of h.0, ap frames_of h.1)
popped (Some f) old new h = ap frames_of h ∙ stack_last new f

pub on_ok : {X E P Q : Type 0} (r : Result X E) → (P → Q) → OnOk r P → OnOk r Q
on_ok (Ok x) f h = f h
on_ok (Err e) f h = h
