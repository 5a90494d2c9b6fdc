-- Natural numbers of arguments, and those above all limits.
use Rattle.std.proofs.Common.{◌≡◌, ◌<◌, ◌≤◌, ◌*◌, ◌^◌, ℕ, zero, suc, min, [], ◌∷◌, Option, Some, None, refl, ap, sym, ◌∙◌, arith, ⊎_elim}
use Rattle.std.specs.Prelude.{ℤ, pos, negsuc, ◌*ℤ◌, ◌<ℤ◌, ◌≤ℤ◌, nat_abs, nat_lt, option_map}
use Rattle.std.proofs.Math.Nat.{le-mul_of_pos_right, min-eq_left, min-eq_right, pow-le-pow_right}
use Rattle.std.proofs.lemmas.Bool.{cases_lt, le-ltb}
use Rattle.std.proofs.lemmas.Int.{ints, clamps}
use Rattle.std.proofs.lemmas.Nat.{pow_pos}
use Rattle.num_type.specs.Constants.{Exact}
use Rattle.num_type.specs.View.{exact_of}
use Rattle.num_type.specs.declared.dyadic.Dyadic.{Dyadic}
use Rattle.fi_rules.specs.Arguments.{constant_in, size_of, whole_of}
use Rattle.fi_rules.specs.Options.{and_then, where_so, ◌|>◌}
use Rattle.fi_rules.specs.Types.{type_of}
use Rattle.fi_rules.specs.Value.{Val, Number}
use Rattle.fi_rules.proofs.Numbers.{whole_missing, whole_down, whole_raised}
use Rattle.fi_meaning.specs.Functions.{natural}
use Rattle.eval_call.specs.View.{capped}

pub capped_below : (k : ℕ) → k ≤ 65536 → capped k ≡ k
capped_below k h = min-eq_left h

pub capped_above : (k : ℕ) → 65536 < k → capped k ≡ 65536
capped_above k h = let l : 65536 ≤ k = omega (arith, h) in min-eq_right l

-- what follows for a number below a limit
pub below_limit : {A : Type 0} (k limit : ℕ) (g : ℕ → Option A) → limit ≤ 64 → and_then (where_so (nat_lt (capped k) limit) (capped k)) g ≡ and_then (where_so (nat_lt k limit) k) g
unfolding and_then where_so
below_limit k limit g h = ⊎_elim above (λ l. ap (λ n. and_then (where_so (nat_lt n limit) n) g) (capped_below k l)) (cases_lt 65536 k)
  where
    above : 65536 < k → and_then (where_so (nat_lt (capped k) limit) (capped k)) g ≡ and_then (where_so (nat_lt k limit) k) g
    above l =
        ap (λ b. and_then (where_so b (capped k)) g) (le-ltb (capped k) limit (omega (arith, h, capped_above k l)))
        ∙ sym (ap (λ b. and_then (where_so b k) g) (le-ltb k limit (omega (arith, h, l))))

-- ---- the natural number of a value

same_behind : (o : Option ℤ) (f : ℤ → Option ℕ) → ((n : ℕ) → f (pos n) ≡ Some n) → ((n : ℕ) → f (negsuc n) ≡ None) → and_then o f ≡ and_then o size_of
unfolding and_then size_of
same_behind None f h g = refl
same_behind (Some (pos n)) f h g = h n
same_behind (Some (negsuc n)) f h g = g n

natural_is : (v : Val) → natural v ≡ (constant_in (type_of v) |> whole_of |> size_of)
unfolding natural constant_in type_of and_then
natural_is (Number s []) = refl
natural_is (Number s (c ∷ [])) = same_behind _ _ (λ n. refl) (λ n. refl)
natural_is (Number s (c ∷ d ∷ cs)) = refl
natural_is v = refl

pub natural_none : (v : Val) → None ≡ constant_in (type_of v) → None ≡ option_map capped (natural v)
unfolding and_then
natural_none v h = sym (ap (option_map capped) (natural_is v ∙ ap (λ o. o |> whole_of |> size_of) (sym h)))

pub natural_some : (v : Val) (x : Exact) (r : Option ℕ) → Some x ≡ constant_in (type_of v) → r ≡ option_map capped (whole_of x |> size_of) → r ≡ option_map capped (natural v)
unfolding and_then
natural_some v x r h e = e ∙ sym (ap (option_map capped) (natural_is v ∙ ap (λ o. o |> whole_of |> size_of) (sym h)))

-- ---- that of a constant

pub fraction_none : (c : Dyadic) → c.e <ℤ pos 0 → None ≡ option_map capped (whole_of (exact_of c) |> size_of)
unfolding and_then
fraction_none c h = sym (ap (λ o. option_map capped (o |> size_of)) (whole_missing c (whole_down c h)))

below_zero : (z : ℤ) → z <ℤ pos 0 → size_of z ≡ None
unfolding size_of
below_zero (pos n) h = absurd (omega (arith, ints, h))
below_zero (negsuc n) h = refl

below_size : (m : ℤ) (p : ℕ) → 0 < p → m <ℤ pos 0 → size_of (m *ℤ pos p) ≡ None
below_size (pos n) p h g = absurd (omega (arith, ints, g))
below_size (negsuc n) zero h g = absurd (omega (arith, h))
below_size (negsuc n) (suc q) h g = below_zero (negsuc n *ℤ pos (suc q)) (let s : 0 < suc n * suc q = grind arith in omega (arith, ints, s))

pub below_none : (c : Dyadic) → pos 0 ≤ℤ c.e → c.m <ℤ pos 0 → None ≡ option_map capped (whole_of (exact_of c) |> size_of)
unfolding and_then
below_none c h g =
    let k : ℕ = nat_abs c.e in
    sym (ap (λ o. option_map capped (o |> size_of)) (whole_raised c k (omega (arith, ints, clamps, h))) ∙ ap (option_map capped) (below_size c.m (2 ^ k) (pow_pos k) g))

raised_size : (m : ℤ) (n p : ℕ) → m ≡ pos n → size_of (m *ℤ pos p) ≡ Some (n * p)
unfolding size_of
raised_size m n p h = rw h refl

pub raised_some : (c : Dyadic) (n k r : ℕ) → c.e ≡ pos k → c.m ≡ pos n → r ≡ min (n * 2 ^ k) 65536 → Some r ≡ option_map capped (whole_of (exact_of c) |> size_of)
unfolding and_then
raised_some c n k r e m h =
    ap (λ z. Some z) h ∙ sym (ap (λ o. option_map capped (o |> size_of)) (whole_raised c k e) ∙ ap (option_map capped) (raised_size c.m n (2 ^ k) m))

-- ---- numbers that are doubled

pub times_more : (r k : ℕ) → 1 ≤ k → r ≤ r * k
times_more r k h = let s : 0 < k = omega (arith, h) in le-mul_of_pos_right r s

pub more_times : (r k : ℕ) → 1 ≤ r → k ≤ r * k
more_times zero k h = absurd (omega (arith, h))
more_times (suc r) k h = grind arith

pub zero_doubled : (m t : ℕ) → m ≡ 0 → 0 ≡ min (m * 2 ^ t) 65536
zero_doubled m t h = let z : m * 2 ^ t ≡ 0 * 2 ^ t = ap (λ k. k * 2 ^ t) h in omega (arith, z)

pub far_doubled : (m t : ℕ) → (m ≡ 0 → ⊥) → 16 < t → 65536 ≡ min (m * 2 ^ t) 65536
far_doubled m t h g =
    let two : 0 < 2 = omega arith in
    let k : 17 ≤ t = omega (arith, g) in
    let a : 2 ^ 17 ≤ 2 ^ t = pow-le-pow_right two k in
    let b : 2 ^ t ≤ m * 2 ^ t = more_times m (2 ^ t) (omega (arith, h)) in
    omega (arith, a, b)

pub big_doubled : (m t : ℕ) → 65536 < m → 65536 ≡ min (m * 2 ^ t) 65536
big_doubled m t h = let b : m ≤ m * 2 ^ t = times_more m (2 ^ t) (pow_pos t) in omega (arith, h, b)
