-- Arrays of one number.
use Rattle.std.proofs.Common.{◌≡◌, ◌<◌, ◌≤◌, ◌*◌, ℕ, zero, suc, List, [], ◌∷◌, length, get_or, map, Option, Some, None, refl, ap, sym, ◌∙◌, arith, ⊎_elim}
use Rattle.std.specs.Prelude.{nat_lt, option_map}
use Rattle.std.proofs.lemmas.Bool.{cases_lt, lt-leb, lt-ltb}
use Rattle.std.proofs.lemmas.Option.{none-some, same_Some}
use Rattle.num_type.specs.Constants.{Exact}
use Rattle.fi_rules.specs.Options.{and_then, where_so, ◌|>◌}
use Rattle.fi_rules.specs.Value.{count, Val, Number}
use Rattle.fi_values.specs.Queries.{filled}
use Rattle.fi_values.specs.Elements.{below}
use Rattle.fi_meaning.specs.Functions.{extent, filled_by, natural}
use Rattle.eval_value.specs.View.{value_view}
use Rattle.eval_value.specs.declared.value.Value.{Value}
use Rattle.eval_call.specs.View.{capped}
use Rattle.eval_call.proofs.Capped.{capped_above, capped_below, more_times, times_more}
use Rattle.eval_call.proofs.Follow.{some_none}

-- ---- how many extents

twice : (c : Exact) (o : Option ℕ) → (o |> (λ k. filled c (record { rows = k; columns = k }))) ≡ (o |> (λ r. o |> (λ k. filled c (record { rows = r; columns = k }))))
unfolding and_then
twice c None = refl
twice c (Some k) = refl

square_of : (c : Exact) (v : Val) → filled_by c (v ∷ v ∷ []) ≡ filled_by c (v ∷ [])
unfolding filled_by
square_of c v = sym (twice c (extent v))

pub square : (c : Exact) (vs : List Value) (v : Value) (o : Option Val) → length vs ≡ 1 → v ≡ get_or vs 0 v → o ≡ filled_by c (value_view v ∷ value_view v ∷ []) → o ≡ filled_by c (map value_view vs)
square c (x ∷ []) v o h e g = g ∙ square_of c (value_view v) ∙ ap (λ (u : Value). filled_by c (value_view u ∷ [])) e
square c [] v o h e g = absurd (omega (arith, h))
square c (x ∷ y ∷ vs) v o h e g = absurd (omega (arith, h))

pub by_two : (c : Exact) (vs : List Value) (v w : Value) (o : Option Val) → length vs ≡ 2 → v ≡ get_or vs 0 v → w ≡ get_or vs 1 w → o ≡ filled_by c (value_view v ∷ value_view w ∷ []) → o ≡ filled_by c (map value_view vs)
by_two c (x ∷ y ∷ []) v w o h e f g = g ∙ (λ i. filled_by c (value_view (e i) ∷ value_view (f i) ∷ []))
by_two c [] v w o h e f g = absurd (omega (arith, h))
by_two c (x ∷ []) v w o h e f g = absurd (omega (arith, h))
by_two c (x ∷ y ∷ z ∷ vs) v w o h e f g = absurd (omega (arith, h))

pub by_others : (c : Exact) (vs : List Value) → (length vs ≡ 1 → ⊥) → (length vs ≡ 2 → ⊥) → None ≡ filled_by c (map value_view vs)
unfolding filled_by
by_others c [] h g = refl
by_others c (x ∷ []) h g = absurd (h refl)
by_others c (x ∷ y ∷ []) h g = absurd (g refl)
by_others c (x ∷ y ∷ z ∷ vs) h g = refl

-- ---- extents

pub extent_none : (v : Val) → None ≡ option_map capped (natural v) → None ≡ option_map capped (extent v)
unfolding and_then
extent_none v h = by (natural v) h
  where
    by : (o : Option ℕ) → None ≡ option_map capped o → None ≡ option_map capped (o |> (λ n. where_so (nat_lt 0 n) n))
    by None e = refl
    by (Some n) e = absurd (none-some (capped n) e)

pub extent_some : (v : Val) (k : ℕ) → Some k ≡ option_map capped (natural v) → 0 < k → Some k ≡ option_map capped (extent v)
unfolding and_then where_so
extent_some v k h l = by (natural v) h
  where
    by : (o : Option ℕ) → Some k ≡ option_map capped o → Some k ≡ option_map capped (o |> (λ n. where_so (nat_lt 0 n) n))
    by None e = absurd (some_none k e)
    by (Some n) e =
        let z : k ≡ capped n = same_Some k (capped n) e in
        let above : 0 < n = omega (arith, z, l) in
        e ∙ sym (ap (λ b. option_map capped (where_so b n)) (lt-ltb 0 n above))

pub extent_zero : (v : Val) (k : ℕ) → Some k ≡ option_map capped (natural v) → k ≡ 0 → None ≡ option_map capped (extent v)
unfolding and_then where_so
extent_zero v k h l = by (natural v) h
  where
    by : (o : Option ℕ) → Some k ≡ option_map capped o → None ≡ option_map capped (o |> (λ n. where_so (nat_lt 0 n) n))
    by None e = refl
    by (Some zero) e = refl
    by (Some (suc n)) e = absurd (let z : k ≡ capped (suc n) = same_Some k (capped (suc n)) e in omega (arith, z, l))

-- ---- arrays

nothing_by : {A : Type 0} (o : Option ℕ) (g : ℕ → Option A) → None ≡ option_map capped o → None ≡ (o |> g)
unfolding and_then
nothing_by None g h = refl
nothing_by (Some n) g h = absurd (none-some (capped n) h)

pub no_rows : (c : Exact) (v w : Val) → None ≡ option_map capped (extent v) → None ≡ filled_by c (v ∷ w ∷ [])
unfolding filled_by
no_rows c v w h = nothing_by (extent v) _ h

pub no_columns : (c : Exact) (v w : Val) (r : ℕ) → Some r ≡ option_map capped (extent v) → None ≡ option_map capped (extent w) → None ≡ filled_by c (v ∷ w ∷ [])
unfolding filled_by and_then
no_columns c v w r h g = by (extent v)
  where
    by : (o : Option ℕ) → None ≡ (o |> (λ r. extent w |> (λ k. filled c (record { rows = r; columns = k }))))
    by None = refl
    by (Some n) = nothing_by (extent w) (λ k. filled c (record { rows = n; columns = k })) g

big : (c : Exact) (r k : ℕ) → 4096 < r * k → filled c (record { rows = r; columns = k }) ≡ None
unfolding and_then where_so
big c r k h = ap (λ b. and_then (where_so b (record { rows = r; columns = k })) (λ s. Some (Number s (map (λ k. c) (below (count s)))))) (lt-leb (r * k) 4096 h)

filled_capped : (c : Exact) (m n : ℕ) → 1 ≤ m → 1 ≤ n → filled c (record { rows = capped m; columns = capped n }) ≡ filled c (record { rows = m; columns = n })
filled_capped c m n h g = ⊎_elim rows (λ l. ⊎_elim columns (both l) (cases_lt 65536 n)) (cases_lt 65536 m)
  where
    least : (k : ℕ) → 1 ≤ k → 1 ≤ capped k
    least k h = ⊎_elim (λ l. omega (arith, capped_above k l)) (λ l. omega (arith, capped_below k l, h)) (cases_lt 65536 k)

    rows : 65536 < m → filled c (record { rows = capped m; columns = capped n }) ≡ filled c (record { rows = m; columns = n })
    rows l =
        big c (capped m) (capped n) (omega (arith, capped_above m l, times_more (capped m) (capped n) (least n g)))
        ∙ sym (big c m n (omega (arith, l, times_more m n g)))

    columns : 65536 < n → filled c (record { rows = capped m; columns = capped n }) ≡ filled c (record { rows = m; columns = n })
    columns l =
        big c (capped m) (capped n) (omega (arith, capped_above n l, more_times (capped m) (capped n) (least m h)))
        ∙ sym (big c m n (omega (arith, l, more_times m n h)))

    both : m ≤ 65536 → n ≤ 65536 → filled c (record { rows = capped m; columns = capped n }) ≡ filled c (record { rows = m; columns = n })
    both l k i = filled c (record { rows = capped_below m l i; columns = capped_below n k i })

pub both : (c : Exact) (v w : Val) (r k : ℕ) (o : Option Val) → Some r ≡ option_map capped (extent v) → Some k ≡ option_map capped (extent w) → 1 ≤ r → 1 ≤ k → o ≡ filled c (record { rows = r; columns = k })
    → o ≡ filled_by c (v ∷ w ∷ [])
unfolding filled_by and_then
both c v w r k o h g least most e = by (extent v) (extent w) h g
  where
    by : (a b : Option ℕ) → Some r ≡ option_map capped a → Some k ≡ option_map capped b → o ≡ (a |> (λ r. b |> (λ k. filled c (record { rows = r; columns = k }))))
    by None b h g = absurd (some_none r h)
    by (Some m) None h g = absurd (some_none k g)
    by (Some m) (Some n) h g =
        let p : r ≡ capped m = same_Some r (capped m) h in
        let q : k ≡ capped n = same_Some k (capped n) g in
        e ∙ (λ i. filled c (record { rows = p i; columns = q i })) ∙ filled_capped c m n (omega (arith, p, least)) (omega (arith, q, most))
