-- What doesn't come in a frame.
use Rattle.std.proofs.Common.{◌≡◌, List, ◌∷◌, refl}
use Rattle.c_tree.specs.declared.tree.CArray.{CArray}
use Rattle.c_tree.specs.declared.tree.CExpr.{CExpr}
use Rattle.c_tree.specs.declared.tree.COp.{COp}
use Rattle.c_tree.specs.declared.tree.CRel.{CRel}
use Rattle.c_tree.specs.declared.tree.CWord.{CWord}
use Rattle.c_tree.specs.declared.array_names.Arrays.{Arrays}
use Rattle.c_tree.specs.Tree.{Exp, Test}
use Rattle.c_grammar.specs.Machine as machine
use Rattle.c_grammar.specs.Machine.{Purpose, Past, Stuck, InCast, with_operator, with_relation, with_close, with_question, with_colon, with_square, close_test}
use Rattle.c_parts.specs.declared.pending.Frame.{Frame}
use Rattle.c_parts.specs.declared.pending.Frame.TheVariants as frame
use Rattle.c_parts.specs.declared.pending.Wanted.{Wanted}
use Rattle.c_parts.specs.View.{frame_view}

pub no_operator : (o : COp) (e : Exp) (t : CWord) (f : Frame) (st : List machine.Frame) (h : Purpose) (v : Past)
    → ((w : Wanted) → f ≡ frame.First w → ⊥) → Stuck ≡ with_operator o e t (frame_view f ∷ st) h v
unfolding frame_view
no_operator o e t (frame.First w) st h v n = absurd (n w refl)
no_operator o e t _ st h v n = refl

pub no_relation : (r : CRel) (e : Exp) (t : CWord) (f : Frame) (st : List machine.Frame) (h : Purpose) (v : Past)
    → ((w : Wanted) → f ≡ frame.First w → ⊥) → Stuck ≡ with_relation r e t (frame_view f ∷ st) h v
unfolding frame_view
no_relation r e t (frame.First w) st h v n = absurd (n w refl)
no_relation r e t _ st h v n = refl

pub no_close : (e : Exp) (t : CWord) (f : Frame) (st : List machine.Frame) (h : Purpose) (v : Past)
    → (f ≡ frame.InNeg → ⊥) → ((o : COp) (a : CExpr) (s u : CWord) → f ≡ frame.InBinary o a s u → ⊥)
    → ((w : Wanted) (r : CRel) (a : CExpr) (s : CWord) → f ≡ frame.InTest w r a s → ⊥)
    → ((r : CRel) (a b : CExpr) (s : CWord) (x : CExpr) (u : CWord) → f ≡ frame.InElse r a b s x u → ⊥)
    → Stuck ≡ with_close e t (frame_view f ∷ st) h v
unfolding frame_view
no_close e t frame.InNeg st h v n m l k = absurd (n refl)
no_close e t (frame.InBinary o a s u) st h v n m l k = absurd (m o a s u refl)
no_close e t (frame.InTest w r a s) st h v n m l k = absurd (l w r a s refl)
no_close e t (frame.InElse r a b s x u) st h v n m l k = absurd (k r a b s x u refl)
no_close e t _ st h v n m l k = refl

pub no_question : (e : Exp) (f : Frame) (st : List machine.Frame) (h : Purpose) (v : Past)
    → ((w : Wanted) (r : CRel) (a : CExpr) (s : CWord) → f ≡ frame.InTest w r a s → ⊥)
    → Stuck ≡ with_question e (frame_view f ∷ st) h v
unfolding frame_view
no_question e (frame.InTest w r a s) st h v n = absurd (n w r a s refl)
no_question e _ st h v n = refl

pub no_colon : (e : Exp) (t : CWord) (f : Frame) (st : List machine.Frame) (h : Purpose) (v : Past)
    → ((r : CRel) (a b : CExpr) (s : CWord) → f ≡ frame.InThen r a b s → ⊥)
    → Stuck ≡ with_colon e t (frame_view f ∷ st) h v
unfolding frame_view
no_colon e t (frame.InThen r a b s) st h v n = absurd (n r a b s refl)
no_colon e t _ st h v n = refl

pub no_square : (all : Arrays) (e : Exp) (f : Frame) (st : List machine.Frame) (h : Purpose) (v : Past)
    → ((a : CArray) → f ≡ frame.InElement a → ⊥) → Stuck ≡ with_square all e (frame_view f ∷ st) h v
unfolding frame_view
no_square all e (frame.InElement a) st h v n = absurd (n a refl)
no_square all e _ st h v n = refl

pub no_test : (t : Test) (f : Frame) (st : List machine.Frame) (h : Purpose) (v : Past)
    → ((s : CWord) → f ≡ frame.InCast s → ⊥) → Stuck ≡ close_test t (frame_view f ∷ st) h v
unfolding frame_view
no_test t (frame.InCast s) st h v n = absurd (n s refl)
no_test t _ st h v n = refl
