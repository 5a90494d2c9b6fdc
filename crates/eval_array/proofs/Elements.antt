-- Lists of elements: their lengths, and what holds of each element.
use Rattle.std.proofs.Common.{◌≡◌, ◌⊎◌, inl, inr, ℕ, zero, suc, ◌+◌, ◌-◌, ◌*◌, ◌<◌, ◌≤◌, List, [], ◌∷◌, ◌++◌, length, map, take, drop, get_or, set, refl, sym, ap, ◌∙◌, arith, length-append, length-drop}
use Rattle.std.specs.Prelude.{All, pos}
use Rattle.std.proofs.lemmas.List.{length-map, length-set, length-take-le, drop-drop, drop_more, drop_all}
use Rattle.std.proofs.lemmas.List.Elements.{All-head, All-tail, All-set, All-map, All-nil, All-cons, All-append, All-take, All-drop}
use Rattle.num_type.specs.Constants.{Exact}
use Rattle.num_type.specs.View.{exact_of}
use Rattle.num_type.specs.declared.dyadic.Dyadic.{Dyadic}
use Rattle.fi_eval.specs.Operators.{pairwise}
use Rattle.fi_values.specs.Elements.{below, count_from, picked, written, spread, stacked}
use Rattle.fi_values.specs.Numbers.{nought}
use Rattle.fi_values.specs.Stores.{put}
use Rattle.eval_array.proofs.Counts.{constant_map, length_below}

-- ---- picked elements

at_any : {X : Type 0} (P : X → Type 0) (d : X) (xs : List X) (k : ℕ) → P d → All P xs → P (get_or xs k d)
at_any P d [] k h all = h
at_any P d (x ∷ xs) zero h all = All-head P x xs all
at_any P d (x ∷ xs) (suc k) h all = at_any P d xs k h (All-tail P x xs all)

pub All_picked : {X : Type 0} (P : X → Type 0) (d : X) (xs : List X) (ks : List ℕ) → P d → All P xs → All P (picked d xs ks)
All_picked P d xs ks h all = All-map P (λ k. get_or xs k d) ks (λ j e l. at_any P d xs (get_or ks j e) h all)

exact_at : (z : Dyadic) (all : List Dyadic) (k : ℕ) → exact_of (get_or all k z) ≡ get_or (map exact_of all) k (exact_of z)
exact_at z [] k = refl
exact_at z (c ∷ cs) zero = refl
exact_at z (c ∷ cs) (suc k) = exact_at z cs k

exact_picked : (z : Dyadic) (all : List Dyadic) (ks : List ℕ) → map exact_of (picked z all ks) ≡ picked (exact_of z) (map exact_of all) ks
exact_picked z all [] = refl
exact_picked z all (k ∷ ks) = λ i. exact_at z all k i ∷ exact_picked z all ks i

pub zero_is : (z : Dyadic) → z.m ≡ pos 0 → z.e ≡ pos 0 → exact_of z ≡ nought
zero_is z p q = λ i. record { significand = p i; exponent = q i }

pub picked_numbers : (z : Dyadic) (all : List Dyadic) (ks : List ℕ) → z.m ≡ pos 0 → z.e ≡ pos 0 → map exact_of (picked z all ks) ≡ picked nought (map exact_of all) ks
picked_numbers z all ks p q = exact_picked z all ks ∙ ap (λ (d : Exact). picked d (map exact_of all) ks) (zero_is z p q)

-- ---- written elements

pub length_written : {X : Type 0} (xs : List X) (ks : List ℕ) (ys : List X) → length (written xs ks ys) ≡ length xs
length_written xs [] ys = refl
length_written xs (k ∷ ks) [] = refl
length_written xs (k ∷ ks) (y ∷ ys) = length_written (set xs k y) ks ys ∙ length-set xs k y

pub All_written : {X : Type 0} (P : X → Type 0) (xs : List X) (ks : List ℕ) (ys : List X) → All P xs → All P ys → All P (written xs ks ys)
All_written P xs [] ys h g = h
All_written P xs (k ∷ ks) [] h g = h
All_written P xs (k ∷ ks) (y ∷ ys) h g = All_written P (set xs k y) ks ys (All-set P xs k y (All-head P y ys g) h) (All-tail P y ys g)

pub All_spread : {X : Type 0} (P : X → Type 0) (n : ℕ) (ys : List X) → All P ys → All P (spread n ys)
All_spread P n [] h = h
All_spread P n (y ∷ []) h = All-map P (λ k. y) (below n) (λ j e l. All-head P y [] h)
All_spread P n (y ∷ z ∷ ys) h = h

pub length_put : {X : Type 0} (xs : List X) (ks : List ℕ) (ys : List X) → length (put xs ks ys) ≡ length xs
length_put xs ks ys = length_written xs ks (spread (length ks) ys)

pub All_put : {X : Type 0} (P : X → Type 0) (xs : List X) (ks : List ℕ) (ys : List X) → All P xs → All P ys → All P (put xs ks ys)
All_put P xs ks ys h g = All_written P xs ks (spread (length ks) ys) h (All_spread P (length ks) ys g)

pub written_past : {X : Type 0} (xs : List X) (ks : List ℕ) → written xs ks [] ≡ xs
written_past xs [] = refl
written_past xs (k ∷ ks) = refl

-- ---- stacked elements

pub All_stacked : {X : Type 0} (P : X → Type 0) (c m n : ℕ) (xs ys : List X) → All P xs → All P ys → All P (stacked c m n xs ys)
All_stacked P zero m n xs ys h g = All-nil P
All_stacked P (suc c) m n xs ys h g =
    All-append P (take m xs) (take n ys ++ stacked c m n (drop m xs) (drop n ys)) (All-take P m xs h)
    (All-append P (take n ys) (stacked c m n (drop m xs) (drop n ys)) (All-take P n ys g) (All_stacked P c m n (drop m xs) (drop n ys) (All-drop P m xs h) (All-drop P n ys g)))

dropped : {X : Type 0} (c m : ℕ) (xs : List X) → length xs ≡ suc c * m → length (drop m xs) ≡ c * m
dropped c m xs e = omega (arith, e, length-drop m xs)

taken : {X : Type 0} (c m : ℕ) (xs : List X) → length xs ≡ suc c * m → length (take m xs) ≡ m
taken c m xs e = length-take-le m xs (omega (arith, e))

pub length_stacked : {X : Type 0} (c m n : ℕ) (xs ys : List X) → length xs ≡ c * m → length ys ≡ c * n → length (stacked c m n xs ys) ≡ c * (m + n)
length_stacked zero m n xs ys e f = omega arith
length_stacked (suc c) m n xs ys e f =
    let rest = stacked c m n (drop m xs) (drop n ys) in
    let r : length rest ≡ c * (m + n) = length_stacked c m n (drop m xs) (drop n ys) (dropped c m xs e) (dropped c n ys f) in
    let a = taken c m xs e in
    let b = taken c n ys f in
    let s : length (take m xs ++ (take n ys ++ rest)) ≡ length (take m xs) + length (take n ys ++ rest) = length-append (take m xs) (take n ys ++ rest) in
    let t : length (take n ys ++ rest) ≡ length (take n ys) + length rest = length-append (take n ys) rest in
    omega (arith, r, a, b, s, t)

-- a column more
pub stacked_more : {X : Type 0} (c m n k : ℕ) (xs ys : List X) → k < c → stacked (c - k) m n (drop (k * m) xs) (drop (k * n) ys) ≡ take m (drop (k * m) xs) ++ (take n (drop (k * n) ys) ++ stacked (c - (k + 1)) m n (drop ((k + 1) * m) xs) (drop ((k + 1) * n) ys))
stacked_more c m n k xs ys h =
    let e : c - k ≡ suc (c - (k + 1)) = omega arith in
    let f : k * m + m ≡ (k + 1) * m = omega arith in
    let g : k * n + n ≡ (k + 1) * n = omega arith in
    ap (λ j. stacked j m n (drop (k * m) xs) (drop (k * n) ys)) e
    ∙ ap (λ us. take m (drop (k * m) xs) ++ (take n (drop (k * n) ys) ++ stacked (c - (k + 1)) m n us (drop n (drop (k * n) ys)))) (drop-drop m (k * m) xs ∙ ap (λ j. drop j xs) f)
    ∙ ap (λ vs. take m (drop (k * m) xs) ++ (take n (drop (k * n) ys) ++ stacked (c - (k + 1)) m n (drop ((k + 1) * m) xs) vs)) (drop-drop n (k * n) ys ∙ ap (λ j. drop j ys) g)

pub stacked_all : {X : Type 0} (c m n k : ℕ) (xs ys : List X) → c ≤ k → stacked (c - k) m n (drop (k * m) xs) (drop (k * n) ys) ≡ []
stacked_all c m n k xs ys h = let e : c - k ≡ 0 = omega arith in ap (λ j. stacked j m n (drop (k * m) xs) (drop (k * n) ys)) e

-- ---- pairs of which one element stays

kept : {X : Type 0} (xs : List X) → map (λ x. x) xs ≡ xs
kept [] = refl
kept (x ∷ xs) = ap (λ ys. x ∷ ys) (kept xs)

firsts : {X : Type 0} (xs ys : List X) → length xs ≡ length ys → pairwise (λ x y. x) xs ys ≡ xs
firsts [] [] e = refl
firsts [] (y ∷ ys) e = absurd (omega (arith, e))
firsts (x ∷ []) [] e = absurd (omega (arith, e))
firsts (x ∷ []) (y ∷ []) e = refl
firsts (x ∷ []) (y ∷ z ∷ ys) e = absurd (omega (arith, e))
firsts (x ∷ w ∷ xs) [] e = absurd (omega (arith, e))
firsts (x ∷ w ∷ xs) (y ∷ []) e = absurd (omega (arith, e))
firsts (x ∷ w ∷ xs) (y ∷ z ∷ ys) e = ap (λ us. x ∷ us) (firsts (w ∷ xs) (z ∷ ys) (omega (arith, e)))

seconds : {X : Type 0} (xs ys : List X) → length xs ≡ length ys → pairwise (λ x y. y) xs ys ≡ ys
seconds [] [] e = refl
seconds [] (y ∷ ys) e = absurd (omega (arith, e))
seconds (x ∷ []) [] e = absurd (omega (arith, e))
seconds (x ∷ []) (y ∷ []) e = refl
seconds (x ∷ []) (y ∷ z ∷ ys) e = absurd (omega (arith, e))
seconds (x ∷ w ∷ xs) [] e = absurd (omega (arith, e))
seconds (x ∷ w ∷ xs) (y ∷ []) e = absurd (omega (arith, e))
seconds (x ∷ w ∷ xs) (y ∷ z ∷ ys) e = ap (λ us. y ∷ us) (seconds (w ∷ xs) (z ∷ ys) (omega (arith, e)))

-- lengths of which each is the other or 1
abbrev pub Fits : ℕ → ℕ → Type 0
Fits m n = (m ≡ n) ⊎ ((m ≡ 1) ⊎ (n ≡ 1))

pub first_spread : {X : Type 0} (xs ys : List X) → Fits (length xs) (length ys) → pairwise (λ x y. x) xs ys ≡ spread (length ys) xs
first_spread (x ∷ []) ys h = constant_map x ys
first_spread [] ys (inl e) = firsts [] ys e
first_spread [] ys (inr (inl e)) = absurd (omega (arith, e))
first_spread [] [] (inr (inr e)) = refl
first_spread [] (y ∷ []) (inr (inr e)) = refl
first_spread [] (y ∷ z ∷ ys) (inr (inr e)) = refl
first_spread (x ∷ w ∷ xs) ys (inl e) = firsts (x ∷ w ∷ xs) ys e
first_spread (x ∷ w ∷ xs) ys (inr (inl e)) = absurd (omega (arith, e))
first_spread (x ∷ w ∷ xs) [] (inr (inr e)) = absurd (omega (arith, e))
first_spread (x ∷ w ∷ xs) (y ∷ []) (inr (inr e)) = kept (x ∷ w ∷ xs)
first_spread (x ∷ w ∷ xs) (y ∷ z ∷ ys) (inr (inr e)) = absurd (omega (arith, e))

pub second_spread : {X : Type 0} (xs ys : List X) → Fits (length xs) (length ys) → pairwise (λ x y. y) xs ys ≡ spread (length xs) ys
second_spread (x ∷ []) [] h = refl
second_spread (x ∷ []) (y ∷ []) h = refl
second_spread (x ∷ []) (y ∷ z ∷ ys) h = kept (y ∷ z ∷ ys)
second_spread [] (y ∷ []) h = refl
second_spread [] [] h = refl
second_spread [] (y ∷ z ∷ ys) (inl e) = absurd (omega (arith, e))
second_spread [] (y ∷ z ∷ ys) (inr (inl e)) = absurd (omega (arith, e))
second_spread [] (y ∷ z ∷ ys) (inr (inr e)) = absurd (omega (arith, e))
second_spread (x ∷ w ∷ xs) [] (inl e) = absurd (omega (arith, e))
second_spread (x ∷ w ∷ xs) [] (inr (inl e)) = absurd (omega (arith, e))
second_spread (x ∷ w ∷ xs) [] (inr (inr e)) = absurd (omega (arith, e))
second_spread (x ∷ w ∷ xs) (y ∷ []) h = constant_map y (x ∷ w ∷ xs)
second_spread (x ∷ w ∷ xs) (y ∷ z ∷ ys) (inl e) = seconds (x ∷ w ∷ xs) (y ∷ z ∷ ys) e
second_spread (x ∷ w ∷ xs) (y ∷ z ∷ ys) (inr (inl e)) = absurd (omega (arith, e))
second_spread (x ∷ w ∷ xs) (y ∷ z ∷ ys) (inr (inr e)) = absurd (omega (arith, e))

pub length_spread : {X : Type 0} (n : ℕ) (ys : List X) → (length ys ≡ 1) ⊎ (length ys ≡ n) → length (spread n ys) ≡ n
length_spread n [] (inl e) = absurd (omega (arith, e))
length_spread n [] (inr e) = e
length_spread n (y ∷ []) h = length-map (below n) (λ k. y) ∙ length_below n
length_spread n (y ∷ z ∷ ys) (inl e) = absurd (omega (arith, e))
length_spread n (y ∷ z ∷ ys) (inr e) = e

-- ---- writes

pub written_step : {X : Type 0} (xs : List X) (ks : List ℕ) (ys : List X) (k p : ℕ) (y : X) → k < length ks → k < length ys → p ≡ get_or ks k p → y ≡ get_or ys k y → written (set xs p y) (drop (k + 1) ks) (drop (k + 1) ys) ≡ written xs (drop k ks) (drop k ys)
written_step xs ks ys k p y h g e f =
    ap (λ q. written (set xs q y) (drop (k + 1) ks) (drop (k + 1) ys)) e
    ∙ ap (λ z. written (set xs (get_or ks k p) z) (drop (k + 1) ks) (drop (k + 1) ys)) f
    ∙ sym (ap (λ us. written xs us (drop k ys)) (drop_more ks k p h) ∙ ap (λ us. written xs (get_or ks k p ∷ drop (k + 1) ks) us) (drop_more ys k y g))

pub written_skip : {X : Type 0} (xs : List X) (ks : List ℕ) (ys : List X) (k : ℕ) → length ys ≤ k → written xs (drop (k + 1) ks) (drop (k + 1) ys) ≡ written xs (drop k ks) (drop k ys)
written_skip xs ks ys k h =
    ap (λ us. written xs (drop (k + 1) ks) us) (drop_all (k + 1) ys (omega (arith, h)))
    ∙ written_past xs (drop (k + 1) ks)
    ∙ sym (ap (λ us. written xs (drop k ks) us) (drop_all k ys h) ∙ written_past xs (drop k ks))

-- ---- small places

small_count : (b k n : ℕ) → k + n ≤ b → All (λ i. i < b) (count_from k n)
small_count b k zero h = All-nil (λ i. i < b)
small_count b k (suc n) h = All-cons (λ i. i < b) k (count_from (suc k) n) (omega (arith, h)) (small_count b (suc k) n (omega (arith, h)))

pub small_below : (b n : ℕ) → n ≤ b → All (λ i. i < b) (below n)
small_below b n h = small_count b 0 n (omega (arith, h))

-- ---- a list that is mapped element by element
