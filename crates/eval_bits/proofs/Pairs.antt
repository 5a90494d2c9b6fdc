-- Lists of two operands side by side.
use Rattle.std.proofs.Common.{◌≡◌, List, [], ◌∷◌, length, get_or, map, refl, ap, arith}
use Rattle.std.specs.Prelude.{All}
use Rattle.std.proofs.lemmas.List.Elements.{All-nil, All-cons, All-head, All-tail, All-map, All-weaker}
use Rattle.fi_eval.specs.Operators.{pairwise}

map-map : {A B C : Type 0} (g : B → C) (f : A → B) (xs : List A) → map g (map f xs) ≡ map (λ x. g (f x)) xs
map-map g f [] = refl
map-map g f (x ∷ xs) = ap (λ r. g (f x) ∷ r) (map-map g f xs)

-- a function of what two elements make
pub map-pairwise : {A B C D : Type 0} (g : C → D) (f : A → B → C) (xs : List A) (ys : List B) → map g (pairwise f xs ys) ≡ pairwise (λ x y. g (f x y)) xs ys
map-pairwise g f [] [] = refl
map-pairwise g f [] (y ∷ []) = refl
map-pairwise g f [] (y ∷ b ∷ ys) = refl
map-pairwise g f (x ∷ []) ys = map-map g (f x) ys
map-pairwise g f (x ∷ a ∷ xs) [] = refl
map-pairwise g f (x ∷ a ∷ xs) (y ∷ []) = map-map g (λ x. f x y) (x ∷ a ∷ xs)
map-pairwise g f (x ∷ a ∷ xs) (y ∷ b ∷ ys) = ap (λ r. g (f x y) ∷ r) (map-pairwise g f (a ∷ xs) (b ∷ ys))

-- what holds of all that two elements make
pub All-pairwise : {A B C : Type 0} (P : A → Type 0) (Q : B → Type 0) (R : C → Type 0) (f : A → B → C) → ((x : A) (y : B) → P x → Q y → R (f x y)) → (xs : List A) (ys : List B) → All P xs → All Q ys → All R (pairwise f xs ys)
All-pairwise P Q R f h [] [] p q = All-nil R
All-pairwise P Q R f h [] (y ∷ []) p q = All-nil R
All-pairwise P Q R f h [] (y ∷ b ∷ ys) p q = All-nil R
All-pairwise P Q R f h (x ∷ []) ys p q = All-map R (f x) ys (All-weaker Q (λ y. R (f x y)) (λ y k. h x y (All-head P x [] p) k) ys q)
All-pairwise P Q R f h (x ∷ a ∷ xs) [] p q = All-nil R
All-pairwise P Q R f h (x ∷ a ∷ xs) (y ∷ []) p q = All-map R (λ x. f x y) (x ∷ a ∷ xs) (All-weaker P (λ x. R (f x y)) (λ x k. h x y k (All-head Q y [] q)) (x ∷ a ∷ xs) p)
All-pairwise P Q R f h (x ∷ a ∷ xs) (y ∷ b ∷ ys) p q =
    All-cons R (f x y) (pairwise f (a ∷ xs) (b ∷ ys)) (h x y (All-head P x (a ∷ xs) p) (All-head Q y (b ∷ ys) q))
    (All-pairwise P Q R f h (a ∷ xs) (b ∷ ys) (All-tail P x (a ∷ xs) p) (All-tail Q y (b ∷ ys) q))

-- ---- a single element on one side

pub pairwise_last : {A B C : Type 0} (f : A → B → C) (xs : List A) (ys : List B) (e : B) → (length xs ≡ 1 → ⊥) → length ys ≡ 1 → pairwise f xs ys ≡ map (λ x. f x (get_or ys 0 e)) xs
pairwise_last f xs [] e n h = absurd (omega (arith, h))
pairwise_last f [] (y ∷ []) e n h = refl
pairwise_last f (x ∷ []) (y ∷ []) e n h = refl
pairwise_last f (x ∷ a ∷ xs) (y ∷ []) e n h = refl
pairwise_last f xs (y ∷ b ∷ ys) e n h = absurd (omega (arith, h))
