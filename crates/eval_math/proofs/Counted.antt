-- Lists that are built by index.
use Rattle.std.proofs.Common.{◌≡◌, ◌∙◌, refl, sym, ap, ℕ, zero, suc, ◌+◌, ◌-◌, ◌<◌, ◌≤◌, List, [], ◌∷◌, ◌++◌, length, map, arith}
use Rattle.std.proofs.lemmas.List.{append-nil, append_assoc, length-map}
use Rattle.fi_values.specs.Elements.{below, count_from}

counted : (i n : ℕ) → i < n → count_from i (n - i) ≡ i ∷ count_from (i + 1) (n - (i + 1))
counted i n l =
    let e : n - i ≡ suc (n - (i + 1)) = omega arith in
    let s : suc i ≡ i + 1 = omega arith in
    ap (count_from i) e ∙ ap (λ (j : ℕ). i ∷ count_from j (n - (i + 1))) s

counted_all : (i n : ℕ) → n ≤ i → count_from i (n - i) ≡ []
counted_all i n l = let e : n - i ≡ 0 = omega arith in ap (count_from i) e

pub count_starts : (n : ℕ) → below n ≡ count_from 0 (n - 0)
count_starts n = let e : n ≡ n - 0 = omega arith in ap (count_from 0) e

pub index_next : {A : Type 0} (F : ℕ → A) (i n : ℕ) (built more : List A) (z : A) (whole : List A) → i < n → z ≡ F i → more ≡ built ++ z ∷ [] → built ++ map F (count_from i (n - i)) ≡ whole → more ++ map F (count_from (i + 1) (n - (i + 1))) ≡ whole
index_next F i n built more z whole l is m h =
    ap (λ w. w ++ map F (count_from (i + 1) (n - (i + 1)))) m
    ∙ append_assoc built (z ∷ []) (map F (count_from (i + 1) (n - (i + 1))))
    ∙ ap (λ w. built ++ w ∷ map F (count_from (i + 1) (n - (i + 1)))) is
    ∙ ap (λ w. built ++ map F w) (sym (counted i n l))
    ∙ h

pub index_end : {A : Type 0} (F : ℕ → A) (i n : ℕ) (built whole : List A) → n ≤ i → built ++ map F (count_from i (n - i)) ≡ whole → built ≡ whole
index_end F i n built whole l h = sym (append-nil built) ∙ ap (λ w. built ++ map F w) (sym (counted_all i n l)) ∙ h

pub length_counted : (k n : ℕ) → length (count_from k n) ≡ n
length_counted k zero = refl
length_counted k (suc n) = ap suc (length_counted (suc k) n)

pub begun_counted : {A : Type 0} (F : ℕ → A) (n : ℕ) → map F (count_from 0 (n - 0)) ≡ map F (below n)
begun_counted F n = ap (map F) (sym (count_starts n))
