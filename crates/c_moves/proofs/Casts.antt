-- Casts round an operand.
use Rattle.std.proofs.Common.{◌≡◌, ◌<◌, ◌∙◌, List, [], ◌∷◌, length, arith, refl, ap, sym}
use Rattle.std.specs.Prelude.{Some, None, Result, Ok, Err, IfOk}
use Rattle.c_tree.specs.declared.tree.CWord.{CWord}
use Rattle.c_tree.specs.Tree.{Exp, Cast}
use Rattle.c_grammar.specs.Machine.{Frame, InCast, Purpose, Past, State, Have, give}
use Rattle.c_parts.specs.declared.pending.Reading.{Reading}
use Rattle.c_parts.specs.View.{reading_view, top_cast}

pub no_cast : (e : Exp) (t : CWord) (st : List Frame) (h : Purpose) (v : Past) → top_cast st ≡ None → Have e t st h v ≡ give e t st h v
unfolding top_cast
no_cast e t [] h v n = refl
no_cast e t (InCast s ∷ st) h v n = absurd cc
no_cast e t (_ ∷ st) h v n = refl

pub in_cast : (e : Exp) (t s : CWord) (st under : List Frame) (h : Purpose) (v : Past) → top_cast st ≡ Some s
    → ((f : Frame) (rest : List Frame) → st ≡ f ∷ rest → under ≡ rest) → give (Cast s e) s under h v ≡ give e t st h v
unfolding top_cast
in_cast e t s [] under h v n k = absurd cc
in_cast e t s (InCast u ∷ st) under h v n k =
    let same : u ≡ s = cc in
    ap (λ x. give (Cast s e) s x h v) (k (InCast u) st refl) ∙ ap (λ x. give (Cast x e) x st h v) (sym same)
in_cast e t s (_ ∷ st) under h v n k = absurd cc

pub gives : {E : Type 0} (r : Result Reading E) (p q : State) → p ≡ q → IfOk r (λ x. reading_view x ≡ p) → IfOk r (λ x. reading_view x ≡ q)
gives (Ok x) p q e h = h ∙ e
gives (Err x) p q e h = h

pub shorter : (st under : List Frame) (s : CWord) → top_cast st ≡ Some s → ((f : Frame) (rest : List Frame) → st ≡ f ∷ rest → under ≡ rest)
    → length under < length st
unfolding top_cast
shorter [] under s n k = absurd cc
shorter (f ∷ st) under s n k = let e : length under ≡ length st = ap length (k f st refl) in omega (arith, e)
