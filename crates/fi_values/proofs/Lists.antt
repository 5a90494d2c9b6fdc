-- Lengths of lists of elements.
use Rattle.std.proofs.Common.{◌≡◌, refl, sym, ap, ◌∙◌, ℕ, zero, suc, ◌+◌, ◌*◌, List, [], ◌∷◌, ◌++◌, length, take, drop, arith, length-append}
use Rattle.std.specs.Prelude.{slice_set}
use Rattle.std.specs.List.{flat_map}
use Rattle.std.proofs.lemmas.List.{length-map, length-set, length-take-le, length-drop}
use Rattle.std.proofs.Math.Nat.{suc-mul}
use Rattle.fi_eval.specs.Operators.{pairwise}
use Rattle.fi_values.specs.Elements.{count_from, below, picked, written, stacked}

pub length-count_from : (k n : ℕ) → length (count_from k n) ≡ n
length-count_from k zero = refl
length-count_from k (suc n) = ap suc (length-count_from (suc k) n)

pub length-below : (n : ℕ) → length (below n) ≡ n
length-below n = length-count_from 0 n

pub length-picked : {A : Type 0} (d : A) (xs : List A) (ks : List ℕ) → length (picked d xs ks) ≡ length ks
length-picked d xs ks = length-map ks _

pub length-written : {A : Type 0} (xs : List A) (ks : List ℕ) (ys : List A) → length (written xs ks ys) ≡ length xs
length-written xs [] ys = refl
length-written xs (k ∷ ks) [] = refl
length-written xs (k ∷ ks) (y ∷ ys) = length-written (slice_set xs k y) ks ys ∙ length-set xs k y

-- so many lists of so many elements each, one behind the other
pub length-flat : {A X : Type 0} (f : X → List A) (m : ℕ) → ((x : X) → length (f x) ≡ m) → (xs : List X) → length (flat_map f xs) ≡ length xs * m
length-flat f m each [] = omega arith
length-flat f m each (x ∷ xs) =
    let e : length (f x) ≡ m = each x in
    let h : length (flat_map f xs) ≡ length xs * m = length-flat f m each xs in
    omega (arith, length-append (f x) (flat_map f xs), suc-mul (length xs) m)

-- the rows of two arrays, one above the other
pub length-stacked : {A : Type 0} (columns m n : ℕ) (xs ys : List A) → length xs ≡ columns * m → length ys ≡ columns * n → length (stacked columns m n xs ys) ≡ columns * (m + n)
length-stacked zero m n xs ys h k = omega arith
length-stacked (suc columns) m n xs ys h k =
    let h1 : length xs ≡ columns * m + m = h ∙ suc-mul columns m in
    let k1 : length ys ≡ columns * n + n = k ∙ suc-mul columns n in
    let front : length (take m xs) ≡ m = length-take-le m xs (omega arith) in
    let middle : length (take n ys) ≡ n = length-take-le n ys (omega arith) in
    let rest : length (stacked columns m n (drop m xs) (drop n ys)) ≡ columns * (m + n) =
    length-stacked columns m n (drop m xs) (drop n ys) (let d = length-drop m xs in omega arith) (let d = length-drop n ys in omega arith) in
    let outer = length-append (take m xs) (take n ys ++ stacked columns m n (drop m xs) (drop n ys)) in
    let inner = length-append (take n ys) (stacked columns m n (drop m xs) (drop n ys)) in
    omega (arith, suc-mul columns (m + n))

-- ---- element by element

-- two lists of n elements, or one of n beside a single element
pub data Pairing (n a b : ℕ) : Type 0 where
  Both : a ≡ n → b ≡ n → Pairing n a b
  First : a ≡ 1 → b ≡ n → Pairing n a b
  Second : a ≡ n → b ≡ 1 → Pairing n a b

pub length-pairwise_same : {A B C : Type 0} (f : A → B → C) (xs : List A) (ys : List B) → length xs ≡ length ys → length (pairwise f xs ys) ≡ length ys
length-pairwise_same f [] [] e = refl
length-pairwise_same f [] (y ∷ ys) e = absurd (omega (arith, e))
length-pairwise_same f (x ∷ []) ys e = length-map ys (f x)
length-pairwise_same f (x ∷ w ∷ xs) [] e = absurd (omega (arith, e))
length-pairwise_same f (x ∷ w ∷ xs) (y ∷ []) e = absurd (omega (arith, e))
length-pairwise_same f (x ∷ w ∷ xs) (y ∷ z ∷ ys) e = ap suc (length-pairwise_same f (w ∷ xs) (z ∷ ys) (omega (arith, e)))

length-pairwise_first : {A B C : Type 0} (f : A → B → C) (xs : List A) (ys : List B) → length xs ≡ 1 → length (pairwise f xs ys) ≡ length ys
length-pairwise_first f [] ys e = absurd (omega (arith, e))
length-pairwise_first f (x ∷ []) ys e = length-map ys (f x)
length-pairwise_first f (x ∷ w ∷ xs) ys e = absurd (omega (arith, e))

length-pairwise_second : {A B C : Type 0} (f : A → B → C) (xs : List A) (ys : List B) → length ys ≡ 1 → length (pairwise f xs ys) ≡ length xs
length-pairwise_second f xs [] e = absurd (omega (arith, e))
length-pairwise_second f [] (y ∷ []) e = refl
length-pairwise_second f (x ∷ []) (y ∷ []) e = refl
length-pairwise_second f (x ∷ w ∷ xs) (y ∷ []) e = length-map (x ∷ w ∷ xs) (λ u. f u y)
length-pairwise_second f xs (y ∷ z ∷ ys) e = absurd (omega (arith, e))

pub length-pairwise : {A B C : Type 0} (f : A → B → C) (xs : List A) (ys : List B) (n : ℕ) → Pairing n (length xs) (length ys) → length (pairwise f xs ys) ≡ n
length-pairwise f xs ys n (Both e h) = length-pairwise_same f xs ys (e ∙ sym h) ∙ h
length-pairwise f xs ys n (First e h) = length-pairwise_first f xs ys e ∙ h
length-pairwise f xs ys n (Second e h) = length-pairwise_second f xs ys h ∙ e
