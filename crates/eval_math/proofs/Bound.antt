-- Results that may be missing.
use Rattle.std.proofs.Common.{◌≡◌, ◌∙◌, refl, sym, ap, List, [], ◌∷◌, ◌++◌, ℕ, zero, suc, ◌+◌, ◌<◌, ◌≤◌, length, map, drop, get_or, arith}
use Rattle.std.specs.Prelude.{Option, Some, None}
use Rattle.std.proofs.lemmas.List.{append-nil, append_assoc, drop_more, drop_all}
use Rattle.fi_rules.specs.Options.{and_then, all_of}
use Rattle.eval_math.specs.View.{with_built}

pub bound_none : {A B : Type 0} (o : Option A) (next : A → Option B) → None ≡ o → None ≡ and_then o next
unfolding and_then
bound_none o next e = rw (sym e) refl

pub bound_some : {A B : Type 0} (o : Option A) (next : A → Option B) (x : A) (y : Option B) → Some x ≡ o → y ≡ next x → y ≡ and_then o next
unfolding and_then
bound_some o next x y e f = rw (sym e) f

-- ---- lists of results, as far as they are built

built_next : {A : Type 0} (built : List A) (z : A) (o : Option A) (rest : List (Option A)) → Some z ≡ o → with_built built (all_of (o ∷ rest)) ≡ with_built (built ++ z ∷ []) (all_of rest)
unfolding and_then all_of
built_next {A = A} built z o rest e = ap (λ p. with_built built (all_of (p ∷ rest))) (sym e) ∙ by (all_of rest)
  where
    by : (r : Option (List A)) → with_built built (and_then r (λ ys. Some (z ∷ ys))) ≡ with_built (built ++ z ∷ []) r
    by None = refl
    by (Some ys) = ap Some (sym (append_assoc built (z ∷ []) ys))

built_stop : {A : Type 0} (built : List A) (o : Option A) (rest : List (Option A)) → None ≡ o → None ≡ with_built built (all_of (o ∷ rest))
unfolding and_then all_of
built_stop built o rest e = ap (λ p. with_built built (all_of (p ∷ rest))) e

built_end : {A : Type 0} (built : List A) → Some built ≡ with_built built (all_of [])
unfolding and_then all_of
built_end built = ap Some (sym (append-nil built))

-- one more result
pub next : {X A : Type 0} (F : X → Option A) (xs : List X) (i : ℕ) (x : X) (built more : List A) (z : A) (whole : Option (List A)) → i < length xs → x ≡ get_or xs i x → Some z ≡ F x → more ≡ built ++ z ∷ [] → with_built built (all_of (map F (drop i xs))) ≡ whole → with_built more (all_of (map F (drop (i + 1) xs))) ≡ whole
next F xs i x built more z whole l at is m h =
    let d : drop i xs ≡ x ∷ drop (i + 1) xs = drop_more xs i x l ∙ ap (λ w. w ∷ drop (i + 1) xs) (sym at) in
    ap (λ w. with_built w (all_of (map F (drop (i + 1) xs)))) m
    ∙ sym (built_next built z (F x) (map F (drop (i + 1) xs)) is)
    ∙ ap (λ w. with_built built (all_of (map F w))) (sym d)
    ∙ h

-- a result is missing
pub stopped : {X A : Type 0} (F : X → Option A) (xs : List X) (i : ℕ) (x : X) (built : List A) (whole : Option (List A)) → i < length xs → x ≡ get_or xs i x → None ≡ F x → with_built built (all_of (map F (drop i xs))) ≡ whole → None ≡ whole
stopped F xs i x built whole l at is h =
    let d : drop i xs ≡ x ∷ drop (i + 1) xs = drop_more xs i x l ∙ ap (λ w. w ∷ drop (i + 1) xs) (sym at) in
    built_stop built (F x) (map F (drop (i + 1) xs)) is
    ∙ ap (λ w. with_built built (all_of (map F w))) (sym d)
    ∙ h

-- all are there
pub ended : {X A : Type 0} (F : X → Option A) (xs : List X) (i : ℕ) (built : List A) (whole : Option (List A)) → length xs ≤ i → with_built built (all_of (map F (drop i xs))) ≡ whole → Some built ≡ whole
ended F xs i built whole l h = built_end built ∙ ap (λ w. with_built built (all_of (map F w))) (sym (drop_all i xs l)) ∙ h

pub begun : {X A : Type 0} (F : X → Option A) (xs : List X) → with_built [] (all_of (map F xs)) ≡ all_of (map F xs)
unfolding and_then
begun {A = A} F xs = by (all_of (map F xs))
  where
    by : (r : Option (List A)) → with_built [] r ≡ r
    by None = refl
    by (Some ys) = refl

pub twice_mapped : {X Y Z : Type 0} (f : Y → Z) (g : X → Y) (xs : List X) → map f (map g xs) ≡ map (λ x. f (g x)) xs
twice_mapped f g [] = refl
twice_mapped f g (x ∷ xs) = ap (λ ys. f (g x) ∷ ys) (twice_mapped f g xs)

-- one more of the same
pub constant_next : {X A : Type 0} (z : A) (d : X) (xs : List X) (k : ℕ) (built more : List A) (w : A) (whole : List A) → k < length xs → w ≡ z → more ≡ built ++ w ∷ [] → built ++ map (λ x. z) (drop k xs) ≡ whole → more ++ map (λ x. z) (drop (k + 1) xs) ≡ whole
constant_next z d xs k built more w whole l e m h =
    ap (λ v. v ++ map (λ x. z) (drop (k + 1) xs)) m
    ∙ append_assoc built (w ∷ []) (map (λ x. z) (drop (k + 1) xs))
    ∙ ap (λ v. built ++ v ∷ map (λ x. z) (drop (k + 1) xs)) e
    ∙ ap (λ v. built ++ map (λ x. z) v) (sym (drop_more xs k d l))
    ∙ h

-- an element is read whatever the default is
pub read_at : {X : Type 0} (xs : List X) (i : ℕ) (d e : X) → i < length xs → get_or xs i d ≡ get_or xs i e
read_at [] i d e l = absurd (omega (arith, l))
read_at (x ∷ xs) zero d e l = refl
read_at (x ∷ xs) (suc i) d e l = read_at xs i d e (omega (arith, l))

-- one more of what is made of each element
pub mapped_next : {X A : Type 0} (f : X → A) (xs : List X) (i : ℕ) (x : X) (built more : List A) (z : A) (whole : List A) → i < length xs → x ≡ get_or xs i x → z ≡ f x → more ≡ built ++ z ∷ [] → built ++ map f (drop i xs) ≡ whole → more ++ map f (drop (i + 1) xs) ≡ whole
mapped_next f xs i x built more z whole l at is m h =
    let d : drop i xs ≡ x ∷ drop (i + 1) xs = drop_more xs i x l ∙ ap (λ w. w ∷ drop (i + 1) xs) (sym at) in
    ap (λ w. w ++ map f (drop (i + 1) xs)) m
    ∙ append_assoc built (z ∷ []) (map f (drop (i + 1) xs))
    ∙ ap (λ w. built ++ w ∷ map f (drop (i + 1) xs)) is
    ∙ ap (λ w. built ++ map f w) (sym d)
    ∙ h
