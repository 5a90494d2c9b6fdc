-- Brackets: rows of values, and values that are joined.
use Rattle.std.proofs.Common.{◌≡◌, ℕ, zero, suc, ◌+◌, ◌<◌, ◌≤◌, Bool, true, false, List, [], ◌∷◌, ◌++◌, map, length, take, drop, get_or, refl, sym, ap, ◌∙◌}
use Rattle.std.specs.Prelude.{ℤ, pos, ◌&&◌, Option, Some, None, is_none}
use Rattle.std.specs.Global.{Vec}
use Rattle.std.proofs.lemmas.List.{append-nil, drop_all, length-map, map-append, take-map}
use Rattle.num_type.specs.Constants.{Exact}
use Rattle.num_type.specs.Types.{NumericType}
use Rattle.num_type.specs.View.{exact_of, type_of}
use Rattle.num_type.specs.declared.dyadic.Dyadic.{Dyadic}
use Rattle.fi_math.specs.declared.fimath.Fimath.{Fimath}
use Rattle.fi_rules.specs.Options.{and_then, where_so}
use Rattle.fi_rules.specs.Types.{same_type, same_attached}
use Rattle.fi_rules.specs.Value.{Shape, Val, Fi, ComplexFi, Number, ComplexNumber}
use Rattle.fi_values.specs.Brackets.{Join, Beside, Above, all_joined, bracket, is_element, joined, joined_by, lists, row_values, same_kind, shape_by}
use Rattle.fi_values.specs.Elements.{below, stacked}
use Rattle.fi_values.specs.Numbers.{nought, nought_parts}
use Rattle.eval_value.specs.View.{fi_view, number_view, row_view, shape_view, value_view}
use Rattle.eval_value.specs.declared.fi_value.FiValue.{FiValue}
use Rattle.eval_value.specs.declared.number_value.NumberValue.{NumberValue}
use Rattle.eval_value.specs.declared.value.Value.{Value}
use Rattle.eval_value.specs.declared.value.Value.TheVariants as value
use Rattle.eval_array.specs.Joints.{fi_joint, imaginary_of}
use Rattle.eval_array.proofs.Counts.{constant_map, drop_from, one_before}
use Rattle.eval_array.proofs.Elements.{zero_is}
use Rattle.eval_array.proofs.Joined.{both_true, number_or, real_or, same_types}

something : {A : Type 0} (x : A) → Some x ≡ None → ⊥
something x e = cc

never : false ≡ true → ⊥
never e = cc

differ : true ≡ false → ⊥
differ e = cc

-- ---- rows

pub rows_stop : (rows : List (Vec Value)) (k : ℕ) (r : Vec Value) (done : List Val) → k < length rows → r ≡ get_or rows k r → None ≡ joined_by Beside (row_view r) → and_then (row_values (map row_view (drop k rows))) (λ vs. Some (done ++ vs)) ≡ row_values (map row_view rows) → None ≡ bracket (map row_view rows)
unfolding and_then
rows_stop rows k r done l e h inv =
    ap (λ p. and_then p (joined_by Above))
    (ap (λ o. and_then (and_then o (λ v. and_then (row_values (map row_view (drop (k + 1) rows))) (λ vs. Some (v ∷ vs)))) (λ vs. Some (done ++ vs))) h
    ∙ sym (ap (λ rs. and_then (row_values (map row_view rs)) (λ vs. Some (done ++ vs))) (drop_from rows k r l e))
    ∙ inv)

pub rows_go : (rows : List (Vec Value)) (k : ℕ) (r : Vec Value) (made : List Value) (v : Value) → k < length rows → r ≡ get_or rows k r → Some (value_view v) ≡ joined_by Beside (row_view r) → and_then (row_values (map row_view (drop k rows))) (λ vs. Some (map value_view made ++ vs)) ≡ row_values (map row_view rows) → and_then (row_values (map row_view (drop (k + 1) rows))) (λ vs. Some (map value_view (made ++ v ∷ []) ++ vs)) ≡ row_values (map row_view rows)
unfolding and_then
rows_go rows k r made v l e h inv =
    ap (λ us. and_then (row_values (map row_view (drop (k + 1) rows))) (λ vs. Some (us ++ vs))) (map-append value_view made (v ∷ []))
    ∙ one_before (row_values (map row_view (drop (k + 1) rows))) (map value_view made) (value_view v)
    ∙ ap (λ o. and_then (and_then o (λ w. and_then (row_values (map row_view (drop (k + 1) rows))) (λ vs. Some (w ∷ vs)))) (λ vs. Some (map value_view made ++ vs))) h
    ∙ sym (ap (λ rs. and_then (row_values (map row_view rs)) (λ vs. Some (map value_view made ++ vs))) (drop_from rows k r l e))
    ∙ inv

pub rows_end : (rows : List (Vec Value)) (k : ℕ) (done : List Val) → length rows ≤ k → and_then (row_values (map row_view (drop k rows))) (λ vs. Some (done ++ vs)) ≡ row_values (map row_view rows) → joined_by Above done ≡ bracket (map row_view rows)
unfolding and_then
rows_end rows k done l inv =
    ap (λ p. and_then p (joined_by Above))
    (ap Some (sym (append-nil done)) ∙ sym (ap (λ rs. and_then (row_values (map row_view rs)) (λ vs. Some (done ++ vs))) (drop_all k rows l)) ∙ inv)

-- ---- values beside each other

pub first_missing : (j : Join) (vs : List Value) (v : Value) → (length vs ≡ 0 → ⊥) → v ≡ get_or vs 0 v → None ≡ is_element (value_view v) → None ≡ joined_by j (map value_view vs)
unfolding and_then
first_missing j [] v n e h = absurd (n refl)
first_missing j (w ∷ vs) v n e h = ap (λ o. and_then o (λ u. all_joined j u (map value_view vs))) (h ∙ ap (λ u. is_element (value_view u)) e)

pub first_there : (j : Join) (vs : List Value) (v : Value) (a : Val) → (length vs ≡ 0 → ⊥) → v ≡ get_or vs 0 v → Some a ≡ is_element (value_view v) → all_joined j a (map value_view (drop 1 vs)) ≡ joined_by j (map value_view vs)
unfolding and_then
first_there j [] v a n e h = absurd (n refl)
first_there j (w ∷ vs) v a n e h = ap (λ o. and_then o (λ u. all_joined j u (map value_view vs))) (h ∙ ap (λ u. is_element (value_view u)) e)

pub one_unjoined : (j : Join) (a : Val) (vs : List Value) (k : ℕ) (w : Value) (whole : Option Val) → k < length vs → w ≡ get_or vs k w → None ≡ joined j a (value_view w) → all_joined j a (map value_view (drop k vs)) ≡ whole → None ≡ whole
unfolding and_then
one_unjoined j a vs k w whole l e h inv =
    ap (λ o. and_then o (λ u. all_joined j u (map value_view (drop (k + 1) vs)))) h ∙ sym (ap (λ ws. all_joined j a (map value_view ws)) (drop_from vs k w l e)) ∙ inv

pub one_joined : (j : Join) (a b : Val) (vs : List Value) (k : ℕ) (w : Value) (whole : Option Val) → k < length vs → w ≡ get_or vs k w → Some b ≡ joined j a (value_view w) → all_joined j a (map value_view (drop k vs)) ≡ whole → all_joined j b (map value_view (drop (k + 1) vs)) ≡ whole
unfolding and_then
one_joined j a b vs k w whole l e h inv =
    ap (λ o. and_then o (λ u. all_joined j u (map value_view (drop (k + 1) vs)))) h ∙ sym (ap (λ ws. all_joined j a (map value_view ws)) (drop_from vs k w l e)) ∙ inv

-- ---- values by their parts

pub fi_is_real : (a : FiValue) → a.im ≡ None → fi_view a ≡ Fi (type_of a.num) a.math (shape_view a.shape) a.re.items
fi_is_real a e = ap (λ o. real_or (type_of a.num) a.math (shape_view a.shape) a.re.items o) e

-- ---- fis

pub fi_joint_parts : (j : Join) (t : NumericType) (m : Option Fimath) (s : Shape) (u : NumericType) (n : Option Fimath) (r q : Shape) → Some q ≡ fi_joint j t m s u n r → (t ≡ u) × (Some q ≡ shape_by j s r)
unfolding and_then where_so
fi_joint_parts j t m s u n r q = by (same_kind t m u n) refl
  where
    by : (b : Bool) → same_kind t m u n ≡ b → Some q ≡ and_then (where_so b s) (λ s. shape_by j s r) → (t ≡ u) × (Some q ≡ shape_by j s r)
    by true f e = (same_types t u (both_true (same_type t u) (same_attached m n) f).0, e)
    by false f e = absurd (something q e)

pub complex_fis_unjoined : (j : Join) (t : NumericType) (m : Option Fimath) (s : Shape) (xs ys : List ℤ) (u : NumericType) (n : Option Fimath) (r : Shape) (us vs : List ℤ) → None ≡ fi_joint j t m s u n r → None ≡ joined j (ComplexFi t m s xs ys) (ComplexFi u n r us vs)
unfolding joined and_then where_so
complex_fis_unjoined j t m s xs ys u n r us vs = by (same_kind t m u n)
  where
    by : (b : Bool) → None ≡ and_then (where_so b s) (λ s. shape_by j s r) → None ≡ and_then (where_so b s) (λ s. and_then (shape_by j s r) (λ q. Some (ComplexFi t m q (lists j s r xs us) (lists j s r ys vs))))
    by true e = ap (λ o. and_then o (λ q. Some (ComplexFi t m q (lists j s r xs us) (lists j s r ys vs)))) e
    by false e = refl

pub complex_fis_joined : (j : Join) (t : NumericType) (m : Option Fimath) (s : Shape) (xs ys : List ℤ) (u : NumericType) (n : Option Fimath) (r : Shape) (us vs : List ℤ) (q : Shape) (zs ws : List ℤ) → Some q ≡ fi_joint j t m s u n r → zs ≡ lists j s r xs us → ws ≡ lists j s r ys vs → Some (ComplexFi t m q zs ws) ≡ joined j (ComplexFi t m s xs ys) (ComplexFi u n r us vs)
unfolding joined and_then where_so
complex_fis_joined j t m s xs ys u n r us vs q zs ws e f g = (λ i. Some (ComplexFi t m q (f i) (g i))) ∙ by (same_kind t m u n) e
  where
    by : (b : Bool) → Some q ≡ and_then (where_so b s) (λ s. shape_by j s r) → Some (ComplexFi t m q (lists j s r xs us) (lists j s r ys vs)) ≡ and_then (where_so b s) (λ s. and_then (shape_by j s r) (λ q. Some (ComplexFi t m q (lists j s r xs us) (lists j s r ys vs))))
    by true h = ap (λ o. and_then o (λ q. Some (ComplexFi t m q (lists j s r xs us) (lists j s r ys vs)))) h
    by false h = absurd (something q h)

-- ---- texts and objects

abbrev pub is_array : Value → Bool
is_array (value.Fi v) = true
is_array (value.Logical v) = true
is_array (value.Number v) = true
is_array (value.Words text) = false
is_array (value.Math m) = false
is_array (value.Type t) = false

pub no_array : (j : Join) (v : Value) (w : Val) → is_array v ≡ false → None ≡ joined j (value_view v) w
unfolding joined
no_array j (value.Fi v) w e = absurd (differ e)
no_array j (value.Logical v) w e = absurd (differ e)
no_array j (value.Number v) w e = absurd (differ e)
no_array j (value.Words text) w e = refl
no_array j (value.Math m) w e = refl
no_array j (value.Type t) w e = refl

-- ---- numbers

drop_map : {X Y : Type 0} (f : X → Y) (n : ℕ) (xs : List X) → drop n (map f xs) ≡ map f (drop n xs)
drop_map f zero xs = refl
drop_map f (suc n) [] = refl
drop_map f (suc n) (x ∷ xs) = drop_map f n xs

map_stacked : {X Y : Type 0} (f : X → Y) (c m n : ℕ) (xs ys : List X) → map f (stacked c m n xs ys) ≡ stacked c m n (map f xs) (map f ys)
map_stacked f zero m n xs ys = refl
map_stacked f (suc c) m n xs ys =
    map-append f (take m xs) (take n ys ++ stacked c m n (drop m xs) (drop n ys))
    ∙ ap (λ zs. map f (take m xs) ++ zs) (map-append f (take n ys) (stacked c m n (drop m xs) (drop n ys)))
    ∙ ap (λ zs. map f (take m xs) ++ (map f (take n ys) ++ zs)) (map_stacked f c m n (drop m xs) (drop n ys))
    ∙ (λ i. sym (take-map f m xs) i ++ (sym (take-map f n ys) i ++ stacked c m n (sym (drop_map f m xs) i) (sym (drop_map f n ys) i)))

pub map_lists : {X Y : Type 0} (f : X → Y) (j : Join) (s t : Shape) (xs ys : List X) → map f (lists j s t xs ys) ≡ lists j s t (map f xs) (map f ys)
map_lists f Beside s t xs ys = map-append f xs ys
map_lists f Above s t xs ys = map_stacked f s.columns s.rows t.rows xs ys

complex_none : (j : Join) (s t : Shape) (xs ys us vs : List Exact) → None ≡ shape_by j s t → None ≡ and_then (shape_by j s t) (λ r. Some (ComplexNumber r (lists j s t xs us) (lists j s t ys vs)))
unfolding and_then
complex_none j s t xs ys us vs e = ap (λ o. and_then o (λ r. Some (ComplexNumber r (lists j s t xs us) (lists j s t ys vs)))) e

complex_some : (j : Join) (s t q : Shape) (xs ys us vs zs ws : List Exact) → Some q ≡ shape_by j s t → zs ≡ lists j s t xs us → ws ≡ lists j s t ys vs → Some (ComplexNumber q zs ws) ≡ and_then (shape_by j s t) (λ r. Some (ComplexNumber r (lists j s t xs us) (lists j s t ys vs)))
unfolding and_then
complex_some j s t q xs ys us vs zs ws e f g = (λ i. Some (ComplexNumber q (f i) (g i))) ∙ ap (λ o. and_then o (λ r. Some (ComplexNumber r (lists j s t xs us) (lists j s t ys vs)))) e

unjoined_by : (j : Join) (s t : Shape) (xs ys : List Exact) (o p : Option (Vec Dyadic)) → None ≡ shape_by j s t → None ≡ joined j (number_or s xs o) (number_or t ys p)
unfolding joined and_then
unjoined_by j s t xs ys None None e = ap (λ o. and_then o (λ r. Some (Number r (lists j s t xs ys)))) e
unjoined_by j s t xs ys None (Some w) e = complex_none j s t xs (nought_parts xs) ys (map exact_of w.items) e
unjoined_by j s t xs ys (Some v) None e = complex_none j s t xs (map exact_of v.items) ys (nought_parts ys) e
unjoined_by j s t xs ys (Some v) (Some w) e = complex_none j s t xs (map exact_of v.items) ys (map exact_of w.items) e

real_by : (j : Join) (s t q : Shape) (xs ys zs : List Exact) (o p : Option (Vec Dyadic)) → (is_none o && is_none p) ≡ true → Some q ≡ shape_by j s t → zs ≡ lists j s t xs ys → Some (Number q zs) ≡ joined j (number_or s xs o) (number_or t ys p)
unfolding joined and_then
real_by j s t q xs ys zs None None h e f = (λ i. Some (Number q (f i))) ∙ ap (λ o. and_then o (λ r. Some (Number r (lists j s t xs ys)))) e
real_by j s t q xs ys zs None (Some w) h e f = absurd (never h)
real_by j s t q xs ys zs (Some v) p h e f = absurd (never h)

complex_by : (j : Join) (s t q : Shape) (xs ys zs ws : List Exact) (o p : Option (Vec Dyadic)) → (is_none o && is_none p) ≡ false → Some q ≡ shape_by j s t → zs ≡ lists j s t xs ys → ws ≡ lists j s t (imaginary_of (number_or s xs o)) (imaginary_of (number_or t ys p)) → Some (ComplexNumber q zs ws) ≡ joined j (number_or s xs o) (number_or t ys p)
unfolding joined and_then imaginary_of
complex_by j s t q xs ys zs ws None None h e f g = absurd (differ h)
complex_by j s t q xs ys zs ws None (Some w) h e f g = complex_some j s t q xs (nought_parts xs) ys (map exact_of w.items) zs ws e f g
complex_by j s t q xs ys zs ws (Some v) None h e f g = complex_some j s t q xs (map exact_of v.items) ys (nought_parts ys) zs ws e f g
complex_by j s t q xs ys zs ws (Some v) (Some w) h e f g = complex_some j s t q xs (map exact_of v.items) ys (map exact_of w.items) zs ws e f g

pub numbers_unjoined : (j : Join) (a b : NumberValue) → None ≡ shape_by j (shape_view a.shape) (shape_view b.shape) → None ≡ joined j (number_view a) (number_view b)
numbers_unjoined j a b e = unjoined_by j (shape_view a.shape) (shape_view b.shape) (map exact_of a.re.items) (map exact_of b.re.items) a.im b.im e

pub real_numbers_joined : (j : Join) (a b : NumberValue) (q : Shape) (zs : List Dyadic) → (is_none a.im && is_none b.im) ≡ true → Some q ≡ shape_by j (shape_view a.shape) (shape_view b.shape) → zs ≡ lists j (shape_view a.shape) (shape_view b.shape) a.re.items b.re.items → Some (Number q (map exact_of zs)) ≡ joined j (number_view a) (number_view b)
real_numbers_joined j a b q zs h e f =
    real_by j (shape_view a.shape) (shape_view b.shape) q (map exact_of a.re.items) (map exact_of b.re.items) (map exact_of zs) a.im b.im h e
    (ap (λ ds. map exact_of ds) f ∙ map_lists exact_of j (shape_view a.shape) (shape_view b.shape) a.re.items b.re.items)

pub complex_numbers_joined : (j : Join) (a b : NumberValue) (q : Shape) (zs us vs ws : List Dyadic) → (is_none a.im && is_none b.im) ≡ false → Some q ≡ shape_by j (shape_view a.shape) (shape_view b.shape) → zs ≡ lists j (shape_view a.shape) (shape_view b.shape) a.re.items b.re.items → map exact_of us ≡ imaginary_of (number_view a) → map exact_of vs ≡ imaginary_of (number_view b) → ws ≡ lists j (shape_view a.shape) (shape_view b.shape) us vs → Some (ComplexNumber q (map exact_of zs) (map exact_of ws)) ≡ joined j (number_view a) (number_view b)
complex_numbers_joined j a b q zs us vs ws h e f m n g =
    complex_by j (shape_view a.shape) (shape_view b.shape) q (map exact_of a.re.items) (map exact_of b.re.items) (map exact_of zs) (map exact_of ws) a.im b.im h e
    (ap (λ ds. map exact_of ds) f ∙ map_lists exact_of j (shape_view a.shape) (shape_view b.shape) a.re.items b.re.items)
    (ap (λ ds. map exact_of ds) g ∙ map_lists exact_of j (shape_view a.shape) (shape_view b.shape) us vs ∙ (λ i. lists j (shape_view a.shape) (shape_view b.shape) (m i) (n i)))

-- ---- imaginary parts

map_map : {X Y Z : Type 0} (f : Y → Z) (g : X → Y) (xs : List X) → map f (map g xs) ≡ map (λ x. f (g x)) xs
map_map f g [] = refl
map_map f g (x ∷ xs) = ap (λ ys. f (g x) ∷ ys) (map_map f g xs)

noughts_are : (z : Dyadic) (xs : List Exact) (n : ℕ) → z.m ≡ pos 0 → z.e ≡ pos 0 → n ≡ length xs → map exact_of (map (λ k. z) (below n)) ≡ nought_parts xs
noughts_are z xs n p q e =
    map_map exact_of (λ (k : ℕ). z) (below n) ∙ (λ i. map (λ (k : ℕ). zero_is z p q i) (below (e i))) ∙ sym (constant_map nought xs)

real_imaginary : (s : Shape) (xs : List Exact) (o : Option (Vec Dyadic)) → o ≡ None → nought_parts xs ≡ imaginary_of (number_or s xs o)
unfolding imaginary_of
real_imaginary s xs o e = ap (λ p. imaginary_of (number_or s xs p)) (sym e)

complex_imaginary : (s : Shape) (xs : List Exact) (o : Option (Vec Dyadic)) (v : Vec Dyadic) → o ≡ Some v → map exact_of v.items ≡ imaginary_of (number_or s xs o)
unfolding imaginary_of
complex_imaginary s xs o v e = ap (λ p. imaginary_of (number_or s xs p)) (sym e)

pub real_parts_missing : (a : NumberValue) (z : Dyadic) (n : ℕ) (zs : List Dyadic) → a.im ≡ None → z.m ≡ pos 0 → z.e ≡ pos 0 → n ≡ length a.re.items → zs ≡ map (λ k. z) (below n) → map exact_of zs ≡ imaginary_of (number_view a)
real_parts_missing a z n zs h p q e f =
    ap (λ ds. map exact_of ds) f
    ∙ noughts_are z (map exact_of a.re.items) n p q (e ∙ sym (length-map a.re.items exact_of))
    ∙ real_imaginary (shape_view a.shape) (map exact_of a.re.items) a.im h

pub complex_parts_there : (a : NumberValue) (v : Vec Dyadic) (zs : List Dyadic) → a.im ≡ Some v → zs ≡ v.items → map exact_of zs ≡ imaginary_of (number_view a)
complex_parts_there a v zs h e = ap (λ ds. map exact_of ds) e ∙ complex_imaginary (shape_view a.shape) (map exact_of a.re.items) a.im v h
