-- Lists of elements, which stand by columns.
use Rattle.std.specs.Prelude.{ℕ, zero, suc, ◌+◌, ◌*◌, List, [], ◌∷◌, ◌++◌, map, flat_map, drop, take, get_or, slice_set}
use Rattle.fi_rules.specs.Value.{Shape}

-- the numbers from one on, so many
abbrev pub count_from : ℕ → ℕ → List ℕ
count_from k zero = []
count_from k (suc n) = k ∷ count_from (suc k) n

-- the numbers below one
abbrev pub below : ℕ → List ℕ
below n = count_from 0 n

-- the elements at these places; the first of all where there is none
abbrev pub picked : {A : Type 0} → A → List A → List ℕ → List A
picked d xs ks = map (λ k. get_or xs k d) ks

-- these written at the places, one after the other, so the last of repeated places stays
abbrev pub written : {A : Type 0} → List A → List ℕ → List A → List A
written xs [] ys = xs
written xs (k ∷ ks) [] = xs
written xs (k ∷ ks) (y ∷ ys) = written (slice_set xs k y) ks ys

-- a single element once for each place, or the list itself
abbrev pub spread : {A : Type 0} → ℕ → List A → List A
spread n (x ∷ []) = map (λ k. x) (below n)
spread n xs = xs

-- the places of the elements of the turned shape in the shape itself, by columns of the turned one
abbrev pub turned_places : Shape → List ℕ
turned_places s = flat_map (λ i. map (λ j. i + s.rows * j) (below s.columns)) (below s.rows)

-- the rows of two arrays of the same width, one above the other
abbrev pub stacked : {A : Type 0} → ℕ → ℕ → ℕ → List A → List A → List A
stacked zero m n xs ys = []
stacked (suc columns) m n xs ys = take m xs ++ (take n ys ++ stacked columns m n (drop m xs) (drop n ys))
