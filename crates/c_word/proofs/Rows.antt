-- Words put in at their texts, one after the other.
use Rattle.std.proofs.Common.{◌≡◌, ℕ, zero, suc, Bool, true, false, if◌then◌else◌, List, [], ◌∷◌, ◌++◌, refl, sym, ap, ◌∙◌, subst}
use Rattle.std.specs.Prelude.{Some, bytes_eq, slice_get}
use Rattle.std.proofs.lemmas.Slice.Eq.{bytes_eq-Decides}
use Rattle.c_tree.specs.Tree.{Signature}
use Rattle.c_tree.specs.Texts.{Text}
use Rattle.c_tree.specs.WellFormed.{IsInterface}
use Rattle.c_grammar.specs.declared.word.CWordToken.{CWordToken}
use Rattle.c_grammar.specs.Words.{text_of, IsToken}
use Rattle.c_word.specs.Table.{Found, Row, with_word, with_rows}

-- a text is that of one token
abbrev pub OneWord : Type 0
OneWord = (i : Signature) (v w : CWordToken) → IsInterface i → IsToken i v → IsToken i w → text_of i v ≡ text_of i w → v ≡ w

-- each row is a token with its text
abbrev pub AreTokens : Signature → List Row → Type 0
AreTokens i [] = Unit {0}
AreTokens i (r ∷ rows) = (IsToken i r.1 × (text_of i r.1 ≡ r.0)) × AreTokens i rows

-- nothing but tokens is found
abbrev pub FindsTokens : Signature → Found → Type 0
FindsTokens i f = (text : Text) (w : CWordToken) → f text ≡ Some w → IsToken i w × (text_of i w ≡ text)

-- one of the rows
abbrev pub In : Row → List Row → Type 0
In r rows = (k : ℕ) × (slice_get rows k ≡ Some r)

some_is : {A : Type 0} {a b : A} → Some a ≡ Some b → a ≡ b
some_is e = cc

only_word : (i : Signature) (f : Found) (t : Text) (w : CWordToken) → IsToken i w → text_of i w ≡ t → FindsTokens i f → FindsTokens i (with_word f t w)
only_word i f t w it is h other v = by (bytes_eq t other) refl
  where
    by : (b : Bool) → bytes_eq t other ≡ b → (if b then Some w else f other) ≡ Some v → IsToken i v × (text_of i v ≡ other)
    by true q e = (subst (IsToken i) (some_is e) it, ap (text_of i) (sym (some_is e)) ∙ is ∙ (bytes_eq-Decides t other).0 q)
    by false q e = h other v e

pub only_rows : (i : Signature) (rows : List Row) (f : Found) → AreTokens i rows → FindsTokens i f → FindsTokens i (with_rows f rows)
only_rows i [] f k h = h
only_rows i (r ∷ rows) f k h = only_rows i rows (with_word f r.0 r.1) k.1 (only_word i f r.0 r.1 k.0.0 k.0.1 h)

kept_word : OneWord → (i : Signature) → IsInterface i → (f : Found) (t : Text) (v : CWordToken) (other : Text) (w : CWordToken) → IsToken i v → text_of i v ≡ t → IsToken i w → text_of i w ≡ other
    → f other ≡ Some w → with_word f t v other ≡ Some w
kept_word one i it f t v other w k p l q e = by (bytes_eq t other) refl
  where
    by : (b : Bool) → bytes_eq t other ≡ b → (if b then Some v else f other) ≡ Some w
    by true z = ap (λ x. Some x) (one i v w it k l (p ∙ (bytes_eq-Decides t other).0 z ∙ sym q))
    by false z = e

kept_rows : OneWord → (i : Signature) → IsInterface i → (rows : List Row) (f : Found) (other : Text) (w : CWordToken) → AreTokens i rows → IsToken i w → text_of i w ≡ other
    → f other ≡ Some w → with_rows f rows other ≡ Some w
kept_rows one i it [] f other w h l q e = e
kept_rows one i it (r ∷ rows) f other w h l q e =
    kept_rows one i it rows (with_word f r.0 r.1) other w h.1 l q (kept_word one i it f r.0 r.1 other w h.0.0 h.0.1 l q e)

-- the word of a row is found at its text
pub put_row : OneWord → (i : Signature) → IsInterface i → (rows : List Row) (f : Found) (t : Text) (w : CWordToken) (k : ℕ) → AreTokens i rows → slice_get rows k ≡ Some (t, w) → with_rows f rows t ≡ Some w
put_row one i it [] f t w k h e = absurd cc
put_row one i it (r ∷ rows) f t w zero h e =
    let same : r ≡ (t, w) = some_is e in
    let token : IsToken i w × (text_of i w ≡ t) = subst (λ (x : Row). IsToken i x.1 × (text_of i x.1 ≡ x.0)) same h.0 in
    let here : with_word f t w t ≡ Some w = ap (λ b. if b then Some w else f t) ((bytes_eq-Decides t t).1 refl) in
    kept_rows one i it rows (with_word f r.0 r.1) t w h.1 token.0 token.1 (subst (λ (x : Row). with_word f x.0 x.1 t ≡ Some w) (sym same) here)
put_row one i it (r ∷ rows) f t w (suc k) h e = put_row one i it rows (with_word f r.0 r.1) t w k h.1 e

-- ---- rows behind others

pub with_both : (f : Found) (xs ys : List Row) → with_rows f (xs ++ ys) ≡ with_rows (with_rows f xs) ys
with_both f [] ys = refl
with_both f (x ∷ xs) ys = with_both (with_word f x.0 x.1) xs ys

pub both_tokens : (i : Signature) (xs ys : List Row) → AreTokens i xs → AreTokens i ys → AreTokens i (xs ++ ys)
both_tokens i [] ys h k = k
both_tokens i (x ∷ xs) ys h k = (h.0, both_tokens i xs ys h.1 k)

pub in_left : (r : Row) (xs ys : List Row) → In r xs → In r (xs ++ ys)
in_left r xs ys h = (h.0, at xs h.0 h.1)
  where
    at : (xs : List Row) (k : ℕ) → slice_get xs k ≡ Some r → slice_get (xs ++ ys) k ≡ Some r
    at [] k e = absurd cc
    at (x ∷ xs) zero e = e
    at (x ∷ xs) (suc k) e = at xs k e

pub in_right : (r : Row) (xs ys : List Row) → In r ys → In r (xs ++ ys)
in_right r [] ys h = h
in_right r (x ∷ xs) ys h = let m = in_right r xs ys h in (suc m.0, m.1)
