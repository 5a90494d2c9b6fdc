-- A token list has at most one refusal.
use Rattle.std.proofs.Common.{◌≡◌, ℕ, ◌+◌, ◌<◌, ◌≤◌, zero, suc, List, [], ◌∷◌, ◌++◌, take, arith, refl, ap, sym, ◌∙◌, subst, ⊎_elim, Some, append_assoc}
use Rattle.std.specs.Prelude.{◌⊎◌, slice_get, codes}
use Rattle.fic_base.specs.declared.refusal.Refusal.{Refusal}
use Rattle.fic_base.specs.declared.code.Code.{Code}
use Rattle.fic_base.specs.declared.code.Code.TheVariants as code
use Rattle.fic_base.specs.declared.place.Place.{Place}
use Rattle.mat_ast.specs.Tree.{Fun}
use Rattle.mat_ast.specs.Depth.{file_depth}
use Rattle.mat_token.specs.Lexeme.{Lexeme}
use Rattle.mat_grammar.specs.Grammar.{file, IsLive, IsShallow, IsBad}
use Rattle.mat_grammar.specs.Refused.{shown, IsRefused}

-- a longer front goes on from a shorter one
take_split : (m n : ℕ) (ts : List Lexeme) → m ≤ n → (more : List Lexeme) × (take n ts ≡ take m ts ++ more)
take_split zero n ts h = (take n ts, refl)
take_split (suc m) zero ts h = absurd (omega arith)
take_split (suc m) (suc n) [] h = ([], refl)
take_split (suc m) (suc n) (t ∷ ts) h = let r = take_split m n ts (omega arith) in (r.0, ap (λ x. t ∷ x) r.1)

shallow_front : (ts us : List Lexeme) → IsShallow (ts ++ us) → IsShallow ts
shallow_front ts us h = (us ++ h.0, h.1, h.2, subst (λ x. file h.1 x []) (append_assoc ts us h.0) h.3)

shallow_less : (ts : List Lexeme) (m n : ℕ) → m ≤ n → IsShallow (take n ts) → IsShallow (take m ts)
shallow_less ts m n le h = let s = take_split m n ts le in shallow_front (take m ts) s.0 (subst IsShallow s.1 h)

-- the first bad token is one
bad_order : (ts : List Lexeme) (i j : ℕ) → IsBad ts i → IsBad ts j → i < j → ⊥
bad_order ts i j h k lt = h.with_it (shallow_less ts (i + 1) j (omega arith) k.before)

bad_once : (ts : List Lexeme) (i j : ℕ) → IsBad ts i → IsBad ts j → i ≡ j
bad_once ts i j h k =
    let a : i < j → ⊥ = bad_order ts i j h k in
    let b : j < i → ⊥ = bad_order ts j i k h in
    omega (arith, a, b)

same_refusal : (r s : Refusal) → r.place ≡ s.place → r.code ≡ s.code → r.shown ≡ s.shown → r ≡ s
same_refusal r s p c t =
    ap (λ (x : Place). record { code = r.code; place = x; shown = r.shown }) p
    ∙ ap (λ (x : Code). record { code = x; place = s.place; shown = r.shown }) c
    ∙ ap (λ (x : List ℕ). record { code = s.code; place = s.place; shown = x }) t

-- two causes at one token
same_cause : (r s : Refusal) (t : Lexeme) (L : Type 0) → r.place ≡ s.place
    → (L × (r.code ≡ code.Limit) × (r.shown ≡ codes "100")) ⊎ ((L → ⊥) × (r.code ≡ code.Syntax) × (r.shown ≡ shown t.kind t.text))
    → (L × (s.code ≡ code.Limit) × (s.shown ≡ codes "100")) ⊎ ((L → ⊥) × (s.code ≡ code.Syntax) × (s.shown ≡ shown t.kind t.text)) → r ≡ s
same_cause r s t L p h k = ⊎_elim
    (λ x. ⊎_elim (λ y. same_refusal r s p (x.1 ∙ sym y.1) (x.2 ∙ sym y.2)) (λ y. absurd (y.0 x.0)) k)
    (λ x. ⊎_elim (λ y. absurd (x.0 y.0)) (λ y. same_refusal r s p (x.1 ∙ sym y.1) (x.2 ∙ sym y.2)) k)
    h

same_token : (ts : List Lexeme) (i j : ℕ) (a b : Lexeme) → i ≡ j → slice_get ts i ≡ Some a → slice_get ts j ≡ Some b → a ≡ b
same_token ts i j a b e h k = let s : Some a ≡ Some b = sym h ∙ ap (slice_get ts) e ∙ k in cc

pub one_refusal : (ts : List Lexeme) (r s : Refusal) → IsRefused ts r → IsRefused ts s → r ≡ s
one_refusal ts r s h k =
    let i : h.index ≡ k.index = bad_once ts h.index k.index h.bad k.bad in
    let t : h.token ≡ k.token = same_token ts h.index k.index h.token k.token i h.there k.there in
    same_cause r s h.token (IsLive (take (h.index + 1) ts)) (h.place_is ∙ ap (λ (x : Lexeme). x.place) t ∙ sym k.place_is) h.cause
    (subst (λ (x : Lexeme). (IsLive (take (h.index + 1) ts) × (s.code ≡ code.Limit) × (s.shown ≡ codes "100")) ⊎ ((IsLive (take (h.index + 1) ts) → ⊥) × (s.code ≡ code.Syntax) × (s.shown ≡ shown x.kind x.text))) (sym t)
    (subst (λ (n : ℕ). (IsLive (take (n + 1) ts) × (s.code ≡ code.Limit) × (s.shown ≡ codes "100")) ⊎ ((IsLive (take (n + 1) ts) → ⊥) × (s.code ≡ code.Syntax) × (s.shown ≡ shown k.token.kind k.token.text))) (sym i) k.cause))

-- each front of a file's tokens is shallow
take_rest : (n : ℕ) (ts : List Lexeme) → (more : List Lexeme) × (ts ≡ take n ts ++ more)
take_rest zero ts = (ts, refl)
take_rest (suc n) [] = ([], refl)
take_rest (suc n) (t ∷ ts) = let r = take_rest n ts in (r.0, ap (λ x. t ∷ x) r.1)

-- a file's tokens are not refused
pub file_not_refused : (ts : List Lexeme) (fs : List Fun) (r : Refusal) → file fs ts [] → file_depth fs ≤ 100 → IsRefused ts r → ⊥
file_not_refused ts fs r h d k =
    let s = take_rest (k.index + 1) ts in
    k.bad.with_it (s.0, fs, d, subst (λ x. file fs x []) s.1 h)
