-- What is true of each element of a list.
use Rattle.std.proofs.Common.{◌≡◌, length, ℕ, zero, suc, List, [], ◌∷◌, ◌++◌, take, drop, get_or}
use Rattle.std.specs.Prelude.{ℤ, map, slice_set}
use Rattle.std.specs.List.{AllByRecursion, flat_map}
use Rattle.std.proofs.lemmas.List.Elements.{All-from_recursion, recursion_from_All}
use Rattle.num_type.specs.Types.{NumericType, IsInRange}
use Rattle.fi_rules.specs.Value.{Shape, count}
use Rattle.fi_eval.specs.Operators.{pairwise}
use Rattle.fi_values.specs.Elements.{below, picked, written, spread, stacked}
use Rattle.fi_values.specs.Sound.{IsStored}

pub each_map : {A B : Type 0} (P : B → Type 0) (f : A → B) → ((x : A) → P (f x)) → (xs : List A) → AllByRecursion P (map f xs)
each_map P f h [] = tt
each_map P f h (x ∷ xs) = (h x, each_map P f h xs)

pub each_map_from : {A B : Type 0} (Q : A → Type 0) (P : B → Type 0) (f : A → B) → ((x : A) → Q x → P (f x)) → (xs : List A) → AllByRecursion Q xs → AllByRecursion P (map f xs)
each_map_from Q P f h [] k = tt
each_map_from Q P f h (x ∷ xs) k = (h x k.0, each_map_from Q P f h xs k.1)

pub each_weaker : {A : Type 0} (Q P : A → Type 0) → ((x : A) → Q x → P x) → (xs : List A) → AllByRecursion Q xs → AllByRecursion P xs
each_weaker Q P h [] k = tt
each_weaker Q P h (x ∷ xs) k = (h x k.0, each_weaker Q P h xs k.1)

pub each_any : {A : Type 0} (P : A → Type 0) → ((x : A) → P x) → (xs : List A) → AllByRecursion P xs
each_any P h [] = tt
each_any P h (x ∷ xs) = (h x, each_any P h xs)

pub each_pairwise : {A B C : Type 0} (Q : A → Type 0) (R : B → Type 0) (P : C → Type 0) (f : A → B → C) → ((x : A) (y : B) → Q x → R y → P (f x y)) → (xs : List A) (ys : List B) → AllByRecursion Q xs → AllByRecursion R ys → AllByRecursion P (pairwise f xs ys)
each_pairwise Q R P f h [] [] q r = tt
each_pairwise Q R P f h [] (y ∷ []) q r = tt
each_pairwise Q R P f h [] (y ∷ z ∷ ys) q r = tt
each_pairwise Q R P f h (x ∷ []) ys q r = each_map_from R P (f x) (λ y k. h x y q.0 k) ys r
each_pairwise Q R P f h (x ∷ w ∷ xs) [] q r = tt
each_pairwise Q R P f h (x ∷ w ∷ xs) (y ∷ []) q r = each_map_from Q P (λ u. f u y) (λ u k. h u y k r.0) (x ∷ w ∷ xs) q
each_pairwise Q R P f h (x ∷ w ∷ xs) (y ∷ z ∷ ys) q r = (h x y q.0 r.0, each_pairwise Q R P f h (w ∷ xs) (z ∷ ys) q.1 r.1)

pub each_pair : {A B C : Type 0} (P : C → Type 0) (f : A → B → C) → ((x : A) (y : B) → P (f x y)) → (xs : List A) (ys : List B) → AllByRecursion P (pairwise f xs ys)
each_pair {A} {B} P f h xs ys =
    each_pairwise (λ (x : A). Unit {0}) (λ (y : B). Unit {0}) P f (λ x y a b. h x y) xs ys (each_any (λ (x : A). Unit {0}) (λ x. tt) xs) (each_any (λ (y : B). Unit {0}) (λ y. tt) ys)

pub each_get : {A : Type 0} (P : A → Type 0) (d : A) → P d → (xs : List A) → AllByRecursion P xs → (k : ℕ) → P (get_or xs k d)
each_get P d h [] a k = h
each_get P d h (x ∷ xs) a zero = a.0
each_get P d h (x ∷ xs) a (suc k) = each_get P d h xs a.1 k

pub each_picked : {A : Type 0} (P : A → Type 0) (d : A) → P d → (xs : List A) → AllByRecursion P xs → (ks : List ℕ) → AllByRecursion P (picked d xs ks)
each_picked P d h xs a ks = each_map P (λ k. get_or xs k d) (each_get P d h xs a) ks

each_set : {A : Type 0} (P : A → Type 0) (xs : List A) (k : ℕ) (y : A) → AllByRecursion P xs → P y → AllByRecursion P (slice_set xs k y)
each_set P [] k y a h = tt
each_set P (x ∷ xs) zero y a h = (h, a.1)
each_set P (x ∷ xs) (suc k) y a h = (a.0, each_set P xs k y a.1 h)

pub each_written : {A : Type 0} (P : A → Type 0) (xs : List A) (ks : List ℕ) (ys : List A) → AllByRecursion P xs → AllByRecursion P ys → AllByRecursion P (written xs ks ys)
each_written P xs [] ys a b = a
each_written P xs (k ∷ ks) [] a b = a
each_written P xs (k ∷ ks) (y ∷ ys) a b = each_written P (slice_set xs k y) ks ys (each_set P xs k y a b.0) b.1

pub each_spread : {A : Type 0} (P : A → Type 0) (n : ℕ) (ys : List A) → AllByRecursion P ys → AllByRecursion P (spread n ys)
each_spread P n [] a = tt
each_spread P n (x ∷ []) a = each_map P (λ (k : ℕ). x) (λ k. a.0) (below n)
each_spread P n (x ∷ y ∷ ys) a = a

pub each_append : {A : Type 0} (P : A → Type 0) (xs ys : List A) → AllByRecursion P xs → AllByRecursion P ys → AllByRecursion P (xs ++ ys)
each_append P [] ys a b = b
each_append P (x ∷ xs) ys a b = (a.0, each_append P xs ys a.1 b)

pub each_take : {A : Type 0} (P : A → Type 0) (n : ℕ) (xs : List A) → AllByRecursion P xs → AllByRecursion P (take n xs)
each_take P zero xs a = tt
each_take P (suc n) [] a = tt
each_take P (suc n) (x ∷ xs) a = (a.0, each_take P n xs a.1)

pub each_drop : {A : Type 0} (P : A → Type 0) (n : ℕ) (xs : List A) → AllByRecursion P xs → AllByRecursion P (drop n xs)
each_drop P zero xs a = a
each_drop P (suc n) [] a = tt
each_drop P (suc n) (x ∷ xs) a = each_drop P n xs a.1

pub each_stacked : {A : Type 0} (P : A → Type 0) (columns m n : ℕ) (xs ys : List A) → AllByRecursion P xs → AllByRecursion P ys → AllByRecursion P (stacked columns m n xs ys)
each_stacked P zero m n xs ys a b = tt
each_stacked P (suc columns) m n xs ys a b =
    each_append P (take m xs) (take n ys ++ stacked columns m n (drop m xs) (drop n ys)) (each_take P m xs a)
    (each_append P (take n ys) (stacked columns m n (drop m xs) (drop n ys)) (each_take P n ys b)
    (each_stacked P columns m n (drop m xs) (drop n ys) (each_drop P m xs a) (each_drop P n ys b)))

pub each_flat : {X A : Type 0} (P : A → Type 0) (f : X → List A) → ((x : X) → AllByRecursion P (f x)) → (xs : List X) → AllByRecursion P (flat_map f xs)
each_flat P f h [] = tt
each_flat P f h (x ∷ xs) = each_append P (f x) (flat_map f xs) (h x) (each_flat P f h xs)

-- ---- stored integers

pub is_stored : {t : NumericType} {s : Shape} {zs : List ℤ} → length zs ≡ count s → AllByRecursion (IsInRange t) zs → IsStored t s zs
is_stored {t = t} {zs = zs} e h = record { filled = e; in_range = All-from_recursion (IsInRange t) zs h }

pub ranges : {t : NumericType} {s : Shape} {zs : List ℤ} → IsStored t s zs → AllByRecursion (IsInRange t) zs
ranges {t = t} {zs = zs} h = recursion_from_All (IsInRange t) zs h.in_range
