-- Elements that meet.
use Rattle.std.proofs.Common.{◌≡◌, ◌⊎◌, inl, inr, ◌∙◌, refl, sym, ap, ℕ, suc, ◌+◌, ◌<◌, List, [], ◌∷◌, ◌++◌, length, map, drop, get_or, arith}
use Rattle.std.specs.List.{All}
use Rattle.std.proofs.lemmas.List.{drop_more, length-map}
use Rattle.std.proofs.lemmas.List.Elements.{All-nil, All-cons, All-head, All-tail, All-map}
use Rattle.fi_eval.specs.Operators.{pairwise}
use Rattle.eval_math.specs.View.{IsMet, paired, side_by_side}

-- ---- pairs, and what is computed of them

fused_left : {A B C : Type 0} (f : A → B → C) (x : A) (ys : List B) → map (λ (p : A × B). f p.0 p.1) (map (λ y. (x, y)) ys) ≡ map (f x) ys
fused_left f x [] = refl
fused_left f x (y ∷ ys) = ap (λ zs. f x y ∷ zs) (fused_left f x ys)

fused_right : {A B C : Type 0} (f : A → B → C) (xs : List A) (y : B) → map (λ (p : A × B). f p.0 p.1) (map (λ x. (x, y)) xs) ≡ map (λ x. f x y) xs
fused_right f [] y = refl
fused_right f (x ∷ xs) y = ap (λ zs. f x y ∷ zs) (fused_right f xs y)

-- an operation on lists is one on their pairs
pub fused : {A B C : Type 0} (f : A → B → C) (xs : List A) (ys : List B) → map (λ (p : A × B). f p.0 p.1) (paired xs ys) ≡ pairwise f xs ys
fused f [] [] = refl
fused f [] (y ∷ []) = refl
fused f [] (y ∷ v ∷ ys) = refl
fused f (x ∷ []) ys = fused_left f x ys
fused f (x ∷ u ∷ xs) [] = refl
fused f (x ∷ u ∷ xs) (y ∷ []) = fused_right f (x ∷ u ∷ xs) y
fused f (x ∷ u ∷ xs) (y ∷ v ∷ ys) = ap (λ zs. f x y ∷ zs) (fused f (u ∷ xs) (v ∷ ys))

-- ---- by lengths

pub single_left : {A : Type 0} (xs ys : List A) (x : A) → length xs ≡ 1 → x ≡ get_or xs 0 x → map (λ y. (x, y)) ys ≡ paired xs ys
single_left [] ys x h e = absurd (omega (arith, h))
single_left (u ∷ []) ys x h e = ap (λ w. map (λ y. (w, y)) ys) e
single_left (u ∷ v ∷ xs) ys x h e = absurd (omega (arith, h))

pub single_right : {A : Type 0} (xs ys : List A) (y : A) → length ys ≡ 1 → y ≡ get_or ys 0 y → (length xs ≡ 1 → ⊥) → map (λ x. (x, y)) xs ≡ paired xs ys
single_right xs [] y h e n = absurd (omega (arith, h))
single_right [] (v ∷ []) y h e n = refl
single_right (x ∷ []) (v ∷ []) y h e n = absurd (n refl)
single_right (x ∷ u ∷ xs) (v ∷ []) y h e n = ap (λ w. map (λ z. (z, w)) (x ∷ u ∷ xs)) e
single_right xs (v ∷ w ∷ ys) y h e n = absurd (omega (arith, h))

pub both_lists : {A B : Type 0} (xs : List A) (ys : List B) → length xs ≡ length ys → side_by_side xs ys ≡ paired xs ys
both_lists [] [] h = refl
both_lists [] (y ∷ ys) h = absurd (omega (arith, h))
both_lists (x ∷ []) [] h = absurd (omega (arith, h))
both_lists (x ∷ []) (y ∷ []) h = refl
both_lists (x ∷ []) (y ∷ v ∷ ys) h = absurd (omega (arith, h))
both_lists (x ∷ u ∷ xs) [] h = absurd (omega (arith, h))
both_lists (x ∷ u ∷ xs) (y ∷ []) h = absurd (omega (arith, h))
both_lists (x ∷ u ∷ xs) (y ∷ v ∷ ys) h = ap (λ zs. (x, y) ∷ zs) (both_lists (u ∷ xs) (v ∷ ys) (omega (arith, h)))

-- ---- lengths

pub met_left : (n l r : ℕ) → IsMet n l r → l ≡ 1 → r ≡ n
met_left n l r (inl h) e = h.1
met_left n l r (inr (inl h)) e = h.1
met_left n l r (inr (inr h)) e = h.1 ∙ sym e ∙ h.0

pub met_right : (n l r : ℕ) → IsMet n l r → r ≡ 1 → l ≡ n
met_right n l r (inl h) e = h.0
met_right n l r (inr (inl h)) e = h.0 ∙ sym e ∙ h.1
met_right n l r (inr (inr h)) e = h.0

pub met_both : (n l r : ℕ) → IsMet n l r → (l ≡ 1 → ⊥) → (r ≡ 1 → ⊥) → (l ≡ n) × (r ≡ n)
met_both n l r (inl h) f g = h
met_both n l r (inr (inl h)) f g = absurd (f h.0)
met_both n l r (inr (inr h)) f g = absurd (g h.1)

-- ---- what holds of both lists

one_left : {A B : Type 0} (P : A → Type 0) (x : A) (ys : List B) → P x → All (λ (p : A × B). P p.0) (map (λ y. (x, y)) ys)
one_left P x [] h = All-nil (λ p. P p.0)
one_left P x (y ∷ ys) h = All-cons (λ p. P p.0) (x, y) (map (λ z. (x, z)) ys) h (one_left P x ys h)

other_left : {A B : Type 0} (P : A → Type 0) (xs : List A) (y : B) → All P xs → All (λ (p : A × B). P p.0) (map (λ x. (x, y)) xs)
other_left P [] y h = All-nil (λ p. P p.0)
other_left P (x ∷ xs) y h = All-cons (λ p. P p.0) (x, y) (map (λ z. (z, y)) xs) (All-head P x xs h) (other_left P xs y (All-tail P x xs h))

pub all_left : {A B : Type 0} (P : A → Type 0) (xs : List A) (ys : List B) → All P xs → All (λ (p : A × B). P p.0) (paired xs ys)
all_left P [] [] h = All-nil (λ p. P p.0)
all_left P [] (y ∷ []) h = All-nil (λ p. P p.0)
all_left P [] (y ∷ v ∷ ys) h = All-nil (λ p. P p.0)
all_left P (x ∷ []) ys h = one_left P x ys (All-head P x [] h)
all_left P (x ∷ u ∷ xs) [] h = All-nil (λ p. P p.0)
all_left P (x ∷ u ∷ xs) (y ∷ []) h = other_left P (x ∷ u ∷ xs) y h
all_left P (x ∷ u ∷ xs) (y ∷ v ∷ ys) h =
    All-cons (λ p. P p.0) (x, y) (paired (u ∷ xs) (v ∷ ys)) (All-head P x (u ∷ xs) h) (all_left P (u ∷ xs) (v ∷ ys) (All-tail P x (u ∷ xs) h))

one_right : {A B : Type 0} (P : B → Type 0) (x : A) (ys : List B) → All P ys → All (λ (p : A × B). P p.1) (map (λ y. (x, y)) ys)
one_right P x [] h = All-nil (λ p. P p.1)
one_right P x (y ∷ ys) h = All-cons (λ p. P p.1) (x, y) (map (λ z. (x, z)) ys) (All-head P y ys h) (one_right P x ys (All-tail P y ys h))

other_right : {A B : Type 0} (P : B → Type 0) (xs : List A) (y : B) → P y → All (λ (p : A × B). P p.1) (map (λ x. (x, y)) xs)
other_right P [] y h = All-nil (λ p. P p.1)
other_right P (x ∷ xs) y h = All-cons (λ p. P p.1) (x, y) (map (λ z. (z, y)) xs) h (other_right P xs y h)

pub all_right : {A B : Type 0} (P : B → Type 0) (xs : List A) (ys : List B) → All P ys → All (λ (p : A × B). P p.1) (paired xs ys)
all_right P [] [] h = All-nil (λ p. P p.1)
all_right P [] (y ∷ []) h = All-nil (λ p. P p.1)
all_right P [] (y ∷ v ∷ ys) h = All-nil (λ p. P p.1)
all_right P (x ∷ []) ys h = one_right P x ys h
all_right P (x ∷ u ∷ xs) [] h = All-nil (λ p. P p.1)
all_right P (x ∷ u ∷ xs) (y ∷ []) h = other_right P (x ∷ u ∷ xs) y (All-head P y [] h)
all_right P (x ∷ u ∷ xs) (y ∷ v ∷ ys) h =
    All-cons (λ p. P p.1) (x, y) (paired (u ∷ xs) (v ∷ ys)) (All-head P y (v ∷ ys) h) (all_right P (u ∷ xs) (v ∷ ys) (All-tail P y (v ∷ ys) h))

-- ---- one more pair

pub one_more : {A B : Type 0} (xs : List A) (ys : List B) (k : ℕ) (x : A) (y : B) → k < length xs → k < length ys → x ≡ get_or xs k x → y ≡ get_or ys k y → side_by_side (drop k xs) (drop k ys) ≡ (x, y) ∷ side_by_side (drop (k + 1) xs) (drop (k + 1) ys)
one_more xs ys k x y l m e f =
    let d : drop k xs ≡ x ∷ drop (k + 1) xs = drop_more xs k x l ∙ ap (λ w. w ∷ drop (k + 1) xs) (sym e) in
    let g : drop k ys ≡ y ∷ drop (k + 1) ys = drop_more ys k y m ∙ ap (λ w. w ∷ drop (k + 1) ys) (sym f) in
    λ i. side_by_side (d i) (g i)

-- ---- lists that are made of others

right_of : {A B C D E : Type 0} (f : A → B → C) (g : D → A) (h : E → B) (x : D) (ys : List E) → map (f (g x)) (map h ys) ≡ map (λ y. f (g x) (h y)) ys
right_of f g h x [] = refl
right_of f g h x (y ∷ ys) = ap (λ zs. f (g x) (h y) ∷ zs) (right_of f g h x ys)

left_of : {A B C D E : Type 0} (f : A → B → C) (g : D → A) (h : E → B) (xs : List D) (y : E) → map (λ x. f x (h y)) (map g xs) ≡ map (λ x. f (g x) (h y)) xs
left_of f g h [] y = refl
left_of f g h (x ∷ xs) y = ap (λ zs. f (g x) (h y) ∷ zs) (left_of f g h xs y)

pub mapped : {A B C D E : Type 0} (f : A → B → C) (g : D → A) (h : E → B) (xs : List D) (ys : List E) → pairwise f (map g xs) (map h ys) ≡ pairwise (λ x y. f (g x) (h y)) xs ys
mapped f g h [] [] = refl
mapped f g h [] (y ∷ []) = refl
mapped f g h [] (y ∷ v ∷ ys) = refl
mapped f g h (x ∷ []) ys = right_of f g h x ys
mapped f g h (x ∷ u ∷ xs) [] = refl
mapped f g h (x ∷ u ∷ xs) (y ∷ []) = left_of f g h (x ∷ u ∷ xs) y
mapped f g h (x ∷ u ∷ xs) (y ∷ v ∷ ys) = ap (λ zs. f (g x) (h y) ∷ zs) (mapped f g h (u ∷ xs) (v ∷ ys))

map_left : {B C D : Type 0} (k : C → D) (f : B → C) (ys : List B) → map k (map f ys) ≡ map (λ y. k (f y)) ys
map_left k f [] = refl
map_left k f (y ∷ ys) = ap (λ zs. k (f y) ∷ zs) (map_left k f ys)

-- what is done to each result
pub then_mapped : {A B C D : Type 0} (k : C → D) (f : A → B → C) (xs : List A) (ys : List B) → map k (pairwise f xs ys) ≡ pairwise (λ x y. k (f x y)) xs ys
then_mapped k f [] [] = refl
then_mapped k f [] (y ∷ []) = refl
then_mapped k f [] (y ∷ v ∷ ys) = refl
then_mapped k f (x ∷ []) ys = map_left k (f x) ys
then_mapped k f (x ∷ u ∷ xs) [] = refl
then_mapped k f (x ∷ u ∷ xs) (y ∷ []) = map_left k (λ w. f w y) (x ∷ u ∷ xs)
then_mapped k f (x ∷ u ∷ xs) (y ∷ v ∷ ys) = ap (λ zs. k (f x y) ∷ zs) (then_mapped k f (u ∷ xs) (v ∷ ys))

identity : {A : Type 0} (xs : List A) → map (λ x. x) xs ≡ xs
identity [] = refl
identity (x ∷ xs) = ap (λ ys. x ∷ ys) (identity xs)

pub only_left : {A B C D : Type 0} (f : A → B → C) (g : D → A) (xs : List D) (ys : List B) → pairwise f (map g xs) ys ≡ pairwise (λ x y. f (g x) y) xs ys
only_left f g xs ys = ap (pairwise f (map g xs)) (sym (identity ys)) ∙ mapped f g (λ y. y) xs ys

pub only_right : {A B C E : Type 0} (f : A → B → C) (h : E → B) (xs : List A) (ys : List E) → pairwise f xs (map h ys) ≡ pairwise (λ x y. f x (h y)) xs ys
only_right f h xs ys = ap (λ zs. pairwise f zs (map h ys)) (sym (identity xs)) ∙ mapped f (λ x. x) h xs ys

-- an operation on what the pairs stand for
pub over : {A B C D E : Type 0} (f : A → B → C) (g : D → A) (h : E → B) (xs : List D) (ys : List E) → map (λ (p : D × E). f (g p.0) (h p.1)) (paired xs ys) ≡ pairwise f (map g xs) (map h ys)
over f g h xs ys = fused (λ x y. f (g x) (h y)) xs ys ∙ sym (mapped f g h xs ys)

-- ---- two operations on the same pairs

together_left : {B C D : Type 0} (f : B → C) (g : B → D) (ys vs : List B) → length ys ≡ length vs → (h : B × B → C × D) → ((y v : B) → h (y, v) ≡ (f y, g v)) → side_by_side (map f ys) (map g vs) ≡ map h (side_by_side ys vs)
together_left f g [] [] l h e = refl
together_left f g [] (v ∷ vs) l h e = absurd (omega (arith, l))
together_left f g (y ∷ ys) [] l h e = absurd (omega (arith, l))
together_left f g (y ∷ ys) (v ∷ vs) l h e = λ i. sym (e y v) i ∷ together_left f g ys vs (omega (arith, l)) h e i

pub together : {A B C : Type 0} (f g : A → B → C) (xs us : List A) (ys vs : List B) → length xs ≡ length us → length ys ≡ length vs → side_by_side (pairwise f xs ys) (pairwise g us vs) ≡ pairwise (λ (p : A × A) (q : B × B). (f p.0 q.0, g p.1 q.1)) (side_by_side xs us) (side_by_side ys vs)
together f g [] [] [] [] l m = refl
together f g [] [] [] (v ∷ vs) l m = absurd (omega (arith, m))
together f g [] [] (y ∷ ys) [] l m = absurd (omega (arith, m))
together f g [] [] (y ∷ []) (v ∷ []) l m = refl
together f g [] [] (y ∷ []) (v ∷ w ∷ vs) l m = absurd (omega (arith, m))
together f g [] [] (y ∷ z ∷ ys) (v ∷ []) l m = absurd (omega (arith, m))
together f g [] [] (y ∷ z ∷ ys) (v ∷ w ∷ vs) l m = refl
together f g [] (u ∷ us) ys vs l m = absurd (omega (arith, l))
together f g (x ∷ xs) [] ys vs l m = absurd (omega (arith, l))
together f g (x ∷ []) (u ∷ []) ys vs l m = together_left (f x) (g u) ys vs m (λ q. (f x q.0, g u q.1)) (λ y v. refl)
together f g (x ∷ []) (u ∷ t ∷ us) ys vs l m = absurd (omega (arith, l))
together f g (x ∷ s ∷ xs) (u ∷ []) ys vs l m = absurd (omega (arith, l))
together f g (x ∷ s ∷ xs) (u ∷ t ∷ us) [] [] l m = refl
together f g (x ∷ s ∷ xs) (u ∷ t ∷ us) [] (v ∷ vs) l m = absurd (omega (arith, m))
together f g (x ∷ s ∷ xs) (u ∷ t ∷ us) (y ∷ ys) [] l m = absurd (omega (arith, m))
together f g (x ∷ s ∷ xs) (u ∷ t ∷ us) (y ∷ []) (v ∷ []) l m = together_left (λ w. f w y) (λ w. g w v) (x ∷ s ∷ xs) (u ∷ t ∷ us) l (λ p. (f p.0 y, g p.1 v)) (λ a b. refl)
together f g (x ∷ s ∷ xs) (u ∷ t ∷ us) (y ∷ []) (v ∷ w ∷ vs) l m = absurd (omega (arith, m))
together f g (x ∷ s ∷ xs) (u ∷ t ∷ us) (y ∷ z ∷ ys) (v ∷ []) l m = absurd (omega (arith, m))
together f g (x ∷ s ∷ xs) (u ∷ t ∷ us) (y ∷ z ∷ ys) (v ∷ w ∷ vs) l m =
    ap (λ ps. (f x y, g u v) ∷ ps) (together f g (s ∷ xs) (t ∷ us) (z ∷ ys) (w ∷ vs) (omega (arith, l)) (omega (arith, m)))

-- an operation on the results of two others
pub on_both : {A B C D : Type 0} (k : C → C → D) (f g : A → B → C) (xs us : List A) (ys vs : List B) → length xs ≡ length us → length ys ≡ length vs → length (pairwise f xs ys) ≡ length (pairwise g us vs) → pairwise k (pairwise f xs ys) (pairwise g us vs) ≡ pairwise (λ (p : A × A) (q : B × B). k (f p.0 q.0) (g p.1 q.1)) (side_by_side xs us) (side_by_side ys vs)
on_both {A = A} {B = B} {C = C} k f g xs us ys vs l m n =
    sym (fused k (pairwise f xs ys) (pairwise g us vs))
    ∙ ap (map (λ (p : C × C). k p.0 p.1)) (sym (both_lists (pairwise f xs ys) (pairwise g us vs) n) ∙ together f g xs us ys vs l m)
    ∙ then_mapped (λ (p : C × C). k p.0 p.1) (λ (p : A × A) (q : B × B). (f p.0 q.0, g p.1 q.1)) (side_by_side xs us) (side_by_side ys vs)

-- ---- how many results there are

many_alike : {A B C : Type 0} (f : A → B → C) (xs : List A) (ys : List B) → length xs ≡ length ys → length (pairwise f xs ys) ≡ length ys
many_alike f [] [] l = refl
many_alike f [] (y ∷ ys) l = absurd (omega (arith, l))
many_alike f (x ∷ xs) [] l = absurd (omega (arith, l))
many_alike f (x ∷ []) (y ∷ []) l = refl
many_alike f (x ∷ []) (y ∷ v ∷ ys) l = absurd (omega (arith, l))
many_alike f (x ∷ u ∷ xs) (y ∷ []) l = absurd (omega (arith, l))
many_alike f (x ∷ u ∷ xs) (y ∷ v ∷ ys) l = ap suc (many_alike f (u ∷ xs) (v ∷ ys) (omega (arith, l)))

many_left : {A B C : Type 0} (f : A → B → C) (xs : List A) (ys : List B) → length xs ≡ 1 → length (pairwise f xs ys) ≡ length ys
many_left f [] ys l = absurd (omega (arith, l))
many_left f (x ∷ []) ys l = length-map ys (f x)
many_left f (x ∷ u ∷ xs) ys l = absurd (omega (arith, l))

many_right : {A B C : Type 0} (f : A → B → C) (xs : List A) (ys : List B) → length ys ≡ 1 → length (pairwise f xs ys) ≡ length xs
many_right f xs [] l = absurd (omega (arith, l))
many_right f [] (y ∷ []) l = refl
many_right f (x ∷ []) (y ∷ []) l = refl
many_right f (x ∷ u ∷ xs) (y ∷ []) l = length-map (x ∷ u ∷ xs) (λ w. f w y)
many_right f xs (y ∷ v ∷ ys) l = absurd (omega (arith, l))

pub met_many : {A B C : Type 0} (f : A → B → C) (n : ℕ) (xs : List A) (ys : List B) → IsMet n (length xs) (length ys) → length (pairwise f xs ys) ≡ n
met_many f n xs ys (inl h) = many_alike f xs ys (h.0 ∙ sym h.1) ∙ h.1
met_many f n xs ys (inr (inl h)) = many_left f xs ys h.0 ∙ h.1
met_many f n xs ys (inr (inr h)) = many_right f xs ys h.1 ∙ h.0

exchanged : {A : Type 0} (xs ys : List A) → side_by_side ys xs ≡ map (λ (q : A × A). (q.1, q.0)) (side_by_side xs ys)
exchanged [] [] = refl
exchanged [] (y ∷ ys) = refl
exchanged (x ∷ xs) [] = refl
exchanged (x ∷ xs) (y ∷ ys) = ap (λ ps. (y, x) ∷ ps) (exchanged xs ys)

-- an operation on the results of two others, the lists to the right exchanged
pub on_both_crossed : {A B C D : Type 0} (k : C → C → D) (f g : A → B → C) (xs us : List A) (ys vs : List B) → length xs ≡ length us → length ys ≡ length vs → length (pairwise f xs vs) ≡ length (pairwise g us ys) → pairwise k (pairwise f xs vs) (pairwise g us ys) ≡ pairwise (λ (p : A × A) (q : B × B). k (f p.0 q.1) (g p.1 q.0)) (side_by_side xs us) (side_by_side ys vs)
on_both_crossed {A = A} {B = B} k f g xs us ys vs l m n =
    on_both k f g xs us vs ys l (sym m) n
    ∙ ap (pairwise (λ (p : A × A) (q : B × B). k (f p.0 q.0) (g p.1 q.1)) (side_by_side xs us)) (exchanged ys vs)
    ∙ only_right (λ (p : A × A) (q : B × B). k (f p.0 q.0) (g p.1 q.1)) (λ (q : B × B). (q.1, q.0)) (side_by_side xs us) (side_by_side ys vs)
