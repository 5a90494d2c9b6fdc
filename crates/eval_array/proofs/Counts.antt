-- Numbers counted up, and lists made along them.
use Rattle.std.proofs.Common.{◌≡◌, ℕ, zero, suc, ◌+◌, ◌-◌, ◌*◌, ◌<◌, ◌≤◌, List, [], ◌∷◌, ◌++◌, length, map, drop, get_or, refl, sym, ap, ◌∙◌, arith, add-one, append_assoc, length-append}
use Rattle.std.specs.List.{flat_map}
use Rattle.std.specs.Prelude.{Option, Some, None}
use Rattle.std.proofs.lemmas.List.{drop_more, length-map}
use Rattle.fi_rules.specs.Options.{and_then}
use Rattle.fi_values.specs.Elements.{count_from, below}

-- ---- one more element

pub step : {X : Type 0} (done left more whole : List X) (x : X) → left ≡ x ∷ more → done ++ left ≡ whole → (done ++ x ∷ []) ++ more ≡ whole
step done left more whole x e h = append_assoc done (x ∷ []) more ∙ ap (λ r. done ++ r) (sym e) ∙ h

-- what is left from an element on
pub drop_from : {X : Type 0} (xs : List X) (k : ℕ) (x : X) → k < length xs → x ≡ get_or xs k x → drop k xs ≡ x ∷ drop (k + 1) xs
drop_from xs k x l e = drop_more xs k x l ∙ ap (λ y. y ∷ drop (k + 1) xs) (sym e)

-- one more element before a list that may be missing
pub one_before : {X : Type 0} (o : Option (List X)) (done : List X) (x : X) → and_then o (λ xs. Some ((done ++ x ∷ []) ++ xs)) ≡ and_then (and_then o (λ xs. Some (x ∷ xs))) (λ xs. Some (done ++ xs))
unfolding and_then
one_before None done x = refl
one_before (Some xs) done x = ap Some (append_assoc done (x ∷ []) xs)

-- ---- counts

pub count_more : (k n : ℕ) → k < n → count_from k (n - k) ≡ k ∷ count_from (k + 1) (n - (k + 1))
count_more k n h =
    let e : n - k ≡ suc (n - (k + 1)) = omega arith in
    ap (λ m. count_from k m) e ∙ ap (λ j. k ∷ count_from j (n - (k + 1))) (sym (add-one k))

pub count_all : (k n : ℕ) → n ≤ k → count_from k (n - k) ≡ []
count_all k n h = let e : n - k ≡ 0 = omega arith in ap (λ m. count_from k m) e

pub map_more : {X : Type 0} (f : ℕ → X) (k n : ℕ) → k < n → map f (count_from k (n - k)) ≡ f k ∷ map f (count_from (k + 1) (n - (k + 1)))
map_more f k n h = ap (λ ks. map f ks) (count_more k n h)

pub map_all : {X : Type 0} (f : ℕ → X) (k n : ℕ) → n ≤ k → map f (count_from k (n - k)) ≡ []
map_all f k n h = ap (λ ks. map f ks) (count_all k n h)

pub flat_more : {X : Type 0} (f : ℕ → List X) (k n : ℕ) → k < n → flat_map f (count_from k (n - k)) ≡ f k ++ flat_map f (count_from (k + 1) (n - (k + 1)))
flat_more f k n h = ap (λ ks. flat_map f ks) (count_more k n h)

pub flat_all : {X : Type 0} (f : ℕ → List X) (k n : ℕ) → n ≤ k → flat_map f (count_from k (n - k)) ≡ []
flat_all f k n h = ap (λ ks. flat_map f ks) (count_all k n h)

pub length_count : (k n : ℕ) → length (count_from k n) ≡ n
length_count k zero = refl
length_count k (suc n) = ap suc (length_count (suc k) n)

pub length_below : (n : ℕ) → length (below n) ≡ n
length_below n = length_count 0 n

-- so many rows of so many elements
pub length_flat : {X Y : Type 0} (g : ℕ → Y → X) (xs : List Y) (js : List ℕ) → length (flat_map (λ j. map (g j) xs) js) ≡ length xs * length js
length_flat g xs [] = omega arith
length_flat g xs (j ∷ js) =
    let e : length (map (g j) xs ++ flat_map (λ i. map (g i) xs) js) ≡ length (map (g j) xs) + length (flat_map (λ i. map (g i) xs) js) =
    length-append (map (g j) xs) (flat_map (λ i. map (g i) xs) js) in
    let r = length_flat g xs js in
    let m = length-map xs (g j) in
    omega (arith, e, r, m)

-- one element for each of a list
pub constant_from : {X Y : Type 0} (a : X) (ys : List Y) (k : ℕ) → map (λ y. a) ys ≡ map (λ j. a) (count_from k (length ys))
constant_from a [] k = refl
constant_from a (y ∷ ys) k = ap (λ zs. a ∷ zs) (constant_from a ys (suc k))

pub constant_map : {X Y : Type 0} (a : X) (ys : List Y) → map (λ y. a) ys ≡ map (λ j. a) (below (length ys))
constant_map a ys = constant_from a ys 0
