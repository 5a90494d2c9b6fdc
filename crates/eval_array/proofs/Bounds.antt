-- Whole numbers within bounds, and places in extents.
use Rattle.std.proofs.Common.{◌≡◌, ◌⊎◌, inl, inr, ℕ, zero, suc, ◌+◌, ◌*◌, ◌^◌, ◌<◌, ◌≤◌, Bool, true, false, List, [], ◌∷◌, ◌++◌, map, length, drop, get_or, refl, sym, ap, ◌∙◌, subst, arith}
use Rattle.std.specs.Prelude.{ℤ, pos, negsuc, ◌*ℤ◌, ◌≤ℤ◌, ◌<ℤ◌, nat_abs, Option, Some, None, is_some}
use Rattle.std.proofs.lemmas.Bool.Decides.{nat_tests}
use Rattle.std.proofs.lemmas.Int.{ints, clamps}
use Rattle.std.proofs.lemmas.List.{append-nil, drop_all}
use Rattle.std.proofs.Math.Nat.{pow-le-pow_right}
use Rattle.num_type.specs.Constants.{Exact}
use Rattle.num_type.specs.View.{exact_of}
use Rattle.num_type.specs.declared.dyadic.Dyadic.{Dyadic}
use Rattle.num_type.proofs.Constants.{abs_times}
use Rattle.fi_rules.specs.Arguments.{whole_of}
use Rattle.fi_rules.specs.Options.{and_then, where_so, all_of}
use Rattle.fi_rules.proofs.Numbers.{whole_raised, whole_none}
use Rattle.fi_values.specs.Numbers.{is_bound, wholes_of}
use Rattle.fi_values.specs.Subscripts.{place_of}
use Rattle.eval_array.specs.Choices.{bounded, number_place, number_places}
use Rattle.eval_array.proofs.Counts.{drop_from, one_before}

nothing : {A : Type 0} (x : A) → None ≡ Some x → ⊥
nothing x e = cc

something : {A : Type 0} (x : A) → Some x ≡ None → ⊥
something x e = cc

-- ---- bounds

pub bound_beyond : (z : ℤ) → is_bound z ≡ false → 2 ^ 31 ≤ nat_abs z
bound_beyond (pos n) e = grind (arith, nat_tests)
bound_beyond (negsuc n) e = grind (arith, nat_tests)

pub no_bound : (z : ℤ) → 2 ^ 31 ≤ nat_abs z → is_bound z ≡ false
no_bound (pos n) h = grind (arith, nat_tests)
no_bound (negsuc n) h = grind (arith, nat_tests)

-- a number beyond the bounds stays so
pub beyond_times : (m : ℤ) (p : ℕ) → 0 < p → is_bound m ≡ false → is_bound (m *ℤ pos p) ≡ false
beyond_times m p some e =
    let h = bound_beyond m e in
    let a : nat_abs (m *ℤ pos p) ≡ nat_abs m * p = abs_times m p in
    no_bound (m *ℤ pos p) (least (nat_abs m) p some a h)
  where
    least : (n q : ℕ) → 0 < q → nat_abs (m *ℤ pos p) ≡ n * q → 2 ^ 31 ≤ n → 2 ^ 31 ≤ nat_abs (m *ℤ pos p)
    least n (suc q) s a h = omega (arith, a, h)
    least n zero s a h = absurd (omega (arith, s))

pub nothing_there : {A : Type 0} (b : Bool) (x : A) → b ≡ false → None ≡ where_so b x
unfolding where_so
nothing_there b x e = ap (λ c. where_so c x) (sym e)

pub it_is_there : {A : Type 0} (b : Bool) (x : A) → b ≡ true → Some x ≡ where_so b x
unfolding where_so
it_is_there b x e = ap (λ c. where_so c x) (sym e)

-- ---- constants

pub bounded_below : (c : Dyadic) → c.e <ℤ pos 0 → None ≡ bounded (exact_of c)
unfolding and_then
bounded_below c h = ap (λ o. and_then o (λ z. where_so (is_bound z) z)) (whole_none c h)

pub bounded_at : (c : Dyadic) (k : ℕ) → c.e ≡ pos k → bounded (exact_of c) ≡ where_so (is_bound (c.m *ℤ pos (2 ^ k))) (c.m *ℤ pos (2 ^ k))
unfolding and_then
bounded_at c k e = ap (λ o. and_then o (λ z. where_so (is_bound z) z)) (whole_raised c k e)

size_some : (m : ℤ) → (m ≡ pos 0 → ⊥) → 1 ≤ nat_abs m
size_some (pos zero) h = absurd (h refl)
size_some (pos (suc n)) h = omega arith
size_some (negsuc n) h = omega arith

pub times_least : (n q b : ℕ) → 1 ≤ n → b ≤ q → b ≤ n * q
times_least zero q b a h = absurd (omega (arith, a))
times_least (suc n) q b a h = omega (arith, h)

-- a constant is 0 or odd, so that an exponent above 30 is beyond the bounds
pub bounded_above : (c : Dyadic) → pos 30 <ℤ c.e → None ≡ bounded (exact_of c)
bounded_above c h =
    let k : ℕ = nat_abs c.e in
    let p : c.e ≡ pos k = omega (arith, ints, clamps, h) in
    let l : 31 ≤ k = omega (arith, ints, clamps, h) in
    let a : nat_abs (c.m *ℤ pos (2 ^ k)) ≡ nat_abs c.m * 2 ^ k = abs_times c.m (2 ^ k) in
    let some : 1 ≤ nat_abs c.m = size_some c.m (λ z. omega (arith, ints, h, c.zero_form z)) in
    let b : 2 ^ 31 ≤ nat_abs c.m * 2 ^ k = times_least (nat_abs c.m) (2 ^ k) (2 ^ 31) some (pow-le-pow_right {n = 2} (omega arith) {i = 31} {j = k} l) in
    nothing_there (is_bound (c.m *ℤ pos (2 ^ k))) (c.m *ℤ pos (2 ^ k)) (no_bound (c.m *ℤ pos (2 ^ k)) (subst (λ (n : ℕ). 2 ^ 31 ≤ n) (sym a) b)) ∙ sym (bounded_at c k p)

-- ---- places

pub place_above : (extent : ℕ) (z : ℤ) → pos extent <ℤ z → None ≡ place_of extent z
place_above extent (pos zero) h = absurd (omega (arith, ints, h))
place_above extent (pos (suc k)) h = let l : extent ≤ k = omega (arith, ints, h) in grind (arith, nat_tests)
place_above extent (negsuc n) h = refl

-- a number beyond the bounds is out of every extent
pub place_unbounded : (extent : ℕ) (z : ℤ) → extent ≤ 4096 → 2 ^ 31 ≤ nat_abs z → None ≡ place_of extent z
place_unbounded extent (pos n) s h = place_above extent (pos n) (omega (arith, ints, h, s))
place_unbounded extent (negsuc n) s h = refl

split : (b : Bool) → (b ≡ true) ⊎ (b ≡ false)
split true = inl refl
split false = inr refl

pub place_missing : (extent : ℕ) (x : Exact) → extent ≤ 4096 → None ≡ bounded x → None ≡ number_place extent x
unfolding and_then
place_missing extent x s = by (whole_of x)
  where
    by : (o : Option ℤ) → None ≡ and_then o (λ z. where_so (is_bound z) z) → None ≡ and_then o (place_of extent)
    by None e = refl
    by (Some z) e = at (split (is_bound z)) e
      where
        at : (is_bound z ≡ true) ⊎ (is_bound z ≡ false) → None ≡ where_so (is_bound z) z → None ≡ place_of extent z
        at (inl t) e = absurd (nothing z (e ∙ sym (it_is_there (is_bound z) z t)))
        at (inr f) e = place_unbounded extent z s (bound_beyond z f)

pub place_there : (extent : ℕ) (x : Exact) (z : ℤ) → Some z ≡ bounded x → place_of extent z ≡ number_place extent x
unfolding and_then
place_there extent x z = by (whole_of x)
  where
    by : (o : Option ℤ) → Some z ≡ and_then o (λ y. where_so (is_bound y) y) → place_of extent z ≡ and_then o (place_of extent)
    by None e = absurd (something z e)
    by (Some y) e = at (split (is_bound y)) e
      where
        at : (is_bound y ≡ true) ⊎ (is_bound y ≡ false) → Some z ≡ where_so (is_bound y) y → place_of extent z ≡ place_of extent y
        at (inl t) e = ap (λ u. place_of extent u) (same (e ∙ sym (it_is_there (is_bound y) y t)))
          where
            same : Some z ≡ Some y → z ≡ y
            same e = cc
        at (inr f) e = absurd (something z (e ∙ sym (nothing_there (is_bound y) y f)))

-- ---- lists of whole numbers

pub wholes_more : (o : Option ℤ) (z : ℤ) (cs : List Exact) → o ≡ Some z → is_some (and_then o (λ y. and_then (wholes_of cs) (λ ys. Some (y ∷ ys)))) ≡ is_some (wholes_of cs)
unfolding and_then
wholes_more o z cs e = ap (λ p. is_some (and_then p (λ y. and_then (wholes_of cs) (λ ys. Some (y ∷ ys))))) e ∙ by (wholes_of cs)
  where
    by : (o : Option (List ℤ)) → is_some (and_then o (λ ys. Some (z ∷ ys))) ≡ is_some o
    by None = refl
    by (Some zs) = refl

-- of what is left of a list, one number on, at one that isn't whole, and at the end
pub wholes_go : (all : List Dyadic) (k : ℕ) (d : Dyadic) → k < length all → d ≡ get_or all k d → pos 0 ≤ℤ d.e → is_some (wholes_of (map exact_of (drop k all))) ≡ is_some (wholes_of (map exact_of (drop (k + 1) all)))
unfolding all_of
wholes_go all k d l e h =
    let n : ℕ = nat_abs d.e in
    let p : d.e ≡ pos n = omega (arith, ints, clamps, h) in
    ap (λ ds. is_some (wholes_of (map exact_of ds))) (drop_from all k d l e)
    ∙ wholes_more (whole_of (exact_of d)) (d.m *ℤ pos (2 ^ n)) (map exact_of (drop (k + 1) all)) (whole_raised d n p)

pub wholes_stop : (all : List Dyadic) (k : ℕ) (d : Dyadic) → k < length all → d ≡ get_or all k d → d.e <ℤ pos 0 → is_some (wholes_of (map exact_of (drop k all))) ≡ false
unfolding all_of and_then
wholes_stop all k d l e h =
    ap (λ ds. is_some (wholes_of (map exact_of ds))) (drop_from all k d l e)
    ∙ ap (λ o. is_some (and_then o (λ y. and_then (wholes_of (map exact_of (drop (k + 1) all))) (λ ys. Some (y ∷ ys))))) (sym (whole_none d h))

pub wholes_end : (all : List Dyadic) (k : ℕ) → length all ≤ k → is_some (wholes_of (map exact_of (drop k all))) ≡ true
unfolding all_of
wholes_end all k l = ap (λ ds. is_some (wholes_of (map exact_of ds))) (drop_all k all l)

-- the places of whole numbers are those of the constants
pub places_of_wholes : (extent : ℕ) (cs : List Exact) (zs : List ℤ) → wholes_of cs ≡ Some zs → all_of (map (place_of extent) zs) ≡ number_places extent cs
unfolding all_of and_then
places_of_wholes extent [] zs e = ap (λ (ys : List ℤ). all_of (map (place_of extent) ys)) (same (sym e))
  where
    same : Some zs ≡ Some [] → zs ≡ []
    same e = cc
places_of_wholes extent (c ∷ cs) zs e = by (whole_of c) (wholes_of cs) (λ ys f. places_of_wholes extent cs ys f) e
  where
    by : (o : Option ℤ) (p : Option (List ℤ)) → ((ys : List ℤ) → p ≡ Some ys → all_of (map (place_of extent) ys) ≡ number_places extent cs) → and_then o (λ y. and_then p (λ ys. Some (y ∷ ys))) ≡ Some zs → all_of (map (place_of extent) zs) ≡ and_then (and_then o (place_of extent)) (λ k. and_then (number_places extent cs) (λ ks. Some (k ∷ ks)))
    by None p f g = absurd (nothing zs g)
    by (Some y) None f g = absurd (nothing zs g)
    by (Some y) (Some ys) f g =
        ap (λ (us : List ℤ). all_of (map (place_of extent) us)) (sym (same g))
        ∙ ap (λ r. and_then (place_of extent y) (λ k. and_then r (λ ks. Some (k ∷ ks)))) (f ys refl)
      where
        same : Some (y ∷ ys) ≡ Some zs → y ∷ ys ≡ zs
        same e = cc

-- of what is left of a list of constants, one place on, at one that is out of the extent, and at the end
pub places_go : (extent : ℕ) (all : List Dyadic) (k : ℕ) (d : Dyadic) (p : ℕ) (done : List ℕ) (whole : Option (List ℕ)) → k < length all → d ≡ get_or all k d → Some p ≡ number_place extent (exact_of d) → and_then (number_places extent (map exact_of (drop k all))) (λ ks. Some (done ++ ks)) ≡ whole → and_then (number_places extent (map exact_of (drop (k + 1) all))) (λ ks. Some ((done ++ p ∷ []) ++ ks)) ≡ whole
unfolding all_of and_then
places_go extent all k d p done whole l e h inv =
    one_before (number_places extent (map exact_of (drop (k + 1) all))) done p
    ∙ ap (λ o. and_then (and_then o (λ n. and_then (number_places extent (map exact_of (drop (k + 1) all))) (λ ks. Some (n ∷ ks)))) (λ ks. Some (done ++ ks))) h
    ∙ sym (ap (λ ds. and_then (number_places extent (map exact_of ds)) (λ ks. Some (done ++ ks))) (drop_from all k d l e))
    ∙ inv

pub places_stop : (extent : ℕ) (all : List Dyadic) (k : ℕ) (d : Dyadic) (done : List ℕ) (whole : Option (List ℕ)) → k < length all → d ≡ get_or all k d → None ≡ number_place extent (exact_of d) → and_then (number_places extent (map exact_of (drop k all))) (λ ks. Some (done ++ ks)) ≡ whole → None ≡ whole
unfolding all_of and_then
places_stop extent all k d done whole l e h inv =
    ap (λ o. and_then (and_then o (λ n. and_then (number_places extent (map exact_of (drop (k + 1) all))) (λ ks. Some (n ∷ ks)))) (λ ks. Some (done ++ ks))) h
    ∙ sym (ap (λ ds. and_then (number_places extent (map exact_of ds)) (λ ks. Some (done ++ ks))) (drop_from all k d l e))
    ∙ inv

pub places_end : (extent : ℕ) (all : List Dyadic) (k : ℕ) (done : List ℕ) (whole : Option (List ℕ)) → length all ≤ k → and_then (number_places extent (map exact_of (drop k all))) (λ ks. Some (done ++ ks)) ≡ whole → Some done ≡ whole
unfolding all_of and_then
places_end extent all k done whole l inv =
    ap Some (sym (append-nil done)) ∙ sym (ap (λ ds. and_then (number_places extent (map exact_of ds)) (λ ks. Some (done ++ ks))) (drop_all k all l)) ∙ inv
