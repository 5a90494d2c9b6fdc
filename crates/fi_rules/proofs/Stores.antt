-- Stored integers of constants.
use Rattle.std.proofs.Common.{◌≡◌, ℕ, zero, suc, ◌-◌, ◌*◌, ◌^◌, ◌<◌, ◌≤◌, Bool, true, false, refl, sym, ap, subst, ◌∙◌, arith}
use Rattle.std.specs.Prelude.{ℤ, pos, ◌+ℤ◌, ◌*ℤ◌, ◌≤ℤ◌, ◌<ℤ◌, neg_ℤ, nat_abs, Option, Some, None, IfSome, IfNone}
use Rattle.std.proofs.lemmas.Int.{ints, clamps}
use Rattle.std.proofs.Math.Pow.{pow_mono}
use Rattle.num_type.specs.Constants.{Exact, IsSame}
use Rattle.num_type.specs.Precision.{whole, scaled}
use Rattle.num_type.specs.Types.{NumericType, IsInRange, least_of, greatest_of}
use Rattle.num_type.specs.View.{exact_of}
use Rattle.num_type.specs.declared.dyadic.Dyadic.{Dyadic}
use Rattle.num_type.proofs.Constants.{zero_same, abs_times}
use Rattle.const_rules.specs.Stored.{stored_in}
use Rattle.const_rules.proofs.Stored.{stored_is, stored_in_is}
use Rattle.fi_rules.proofs.Numbers.{no_whole, exact_up, stored_up}

-- there is none where none is the number
none_stored : (t : NumericType) (x : Exact) → ((z : ℤ) → IsSame (whole z) (scaled t.fraction x) → IsInRange t z → ⊥) → None ≡ stored_in t x
none_stored t x h = by (stored_in t x) refl
  where
    by : (o : Option ℤ) → stored_in t x ≡ o → None ≡ o
    by None e = refl
    by (Some z) e = let r = (stored_in_is t x z).0 e in absurd (h z r.0 r.1)

least_low : (signed : Bool) (w : ℕ) → least_of signed w ≤ℤ pos 0
least_low true w = omega (arith, ints)
least_low false w = omega (arith, ints)

greatest_high : (signed : Bool) (w : ℕ) → pos 0 ≤ℤ greatest_of signed w
greatest_high true w = omega (arith, ints)
greatest_high false w = omega (arith, ints)

pub zero_stored : (t : NumericType) (c : Dyadic) → c.m ≡ pos 0 → Some (pos 0) ≡ stored_in t (exact_of c)
zero_stored t c z =
    sym ((stored_in_is t (exact_of c) (pos 0)).1 (zero_same (whole (pos 0)) (scaled t.fraction (exact_of c)) refl z, record { least = least_low t.signed t.word; most = greatest_high t.signed t.word }))

pub some_stored : (t : NumericType) (c : Dyadic) (k : ℕ) (z : ℤ) → c.e +ℤ t.fraction ≡ pos k → z ≡ c.m *ℤ pos (2 ^ k) → IsInRange t z → Some z ≡ stored_in t (exact_of c)
some_stored t c k z e v r =
    sym ((stored_in_is t (exact_of c) z).1 ((stored_is (exact_of c) t.fraction z).1 (exact_up (exact_of c) t.fraction k e, v ∙ sym (stored_up (exact_of c) t.fraction k e)), r))

-- the number that it would be
would_be : (t : NumericType) (c : Dyadic) (k : ℕ) (z : ℤ) → c.e +ℤ t.fraction ≡ pos k → IsSame (whole z) (scaled t.fraction (exact_of c)) → z ≡ c.m *ℤ pos (2 ^ k)
would_be t c k z e h = ((stored_is (exact_of c) t.fraction z).0 h).1 ∙ stored_up (exact_of c) t.fraction k e

pub out_stored : (t : NumericType) (c : Dyadic) (k : ℕ) (z : ℤ) → c.e +ℤ t.fraction ≡ pos k → z ≡ c.m *ℤ pos (2 ^ k) → (IsInRange t z → ⊥) → None ≡ stored_in t (exact_of c)
out_stored t c k z e v out =
    none_stored t (exact_of c) (λ y h r. out (subst (IsInRange t) (would_be t c k y e h ∙ sym v) r))

pub below_stored : (t : NumericType) (c : Dyadic) → (c.m ≡ pos 0 → ⊥) → (c.e +ℤ t.fraction) <ℤ pos 0 → None ≡ stored_in t (exact_of c)
below_stored t c some below = none_stored t (exact_of c) (λ z h r. no_whole c t.fraction z some below h)

power_64 : (w : ℕ) → w ≤ 64 → 2 ^ w ≤ 2 ^ 64
power_64 w h = pow_mono h

low_bits : (signed : Bool) (w : ℕ) → w ≤ 64 → neg_ℤ (pos (2 ^ 64)) ≤ℤ least_of signed w
low_bits true w h = let p : 2 ^ (w - 1) ≤ 2 ^ 64 = power_64 (w - 1) (omega (arith, h)) in omega (arith, ints, p)
low_bits false w h = omega (arith, ints)

high_bits : (signed : Bool) (w : ℕ) → w ≤ 64 → greatest_of signed w ≤ℤ pos (2 ^ 64)
high_bits true w h = let p : 2 ^ (w - 1) ≤ 2 ^ 64 = power_64 (w - 1) (omega (arith, h)) in omega (arith, ints, p)
high_bits false w h = let p : 2 ^ w ≤ 2 ^ 64 = power_64 w h in omega (arith, ints, p)

small : (t : NumericType) (z : ℤ) → t.word ≤ 64 → IsInRange t z → nat_abs z ≤ 2 ^ 64
small t z h r = omega (arith, ints, clamps, low_bits t.signed t.word h, high_bits t.signed t.word h, r.least, r.most)

large : (n p : ℕ) → 0 < n → p ≤ n * p
large (suc n) p some = grind arith
large zero p some = absurd (omega (arith, some))

pub beyond_stored : (t : NumericType) (c : Dyadic) → t.word ≤ 64 → (c.m ≡ pos 0 → ⊥) → pos 64 <ℤ (c.e +ℤ t.fraction) → None ≡ stored_in t (exact_of c)
beyond_stored t c bits some beyond =
    let k : ℕ = nat_abs (c.e +ℤ t.fraction) in
    let e : c.e +ℤ t.fraction ≡ pos k = omega (arith, ints, clamps, beyond) in
    none_stored t (exact_of c) (λ z h r.
    let size : nat_abs z ≡ nat_abs c.m * 2 ^ k = ap nat_abs (would_be t c k z e h) ∙ abs_times c.m (2 ^ k) in
    let p : 2 ^ 65 ≤ 2 ^ k = pow_mono (let l : 65 ≤ k = omega (arith, ints, beyond, e) in l) in
    let l : 2 ^ k ≤ nat_abs c.m * 2 ^ k = large (nat_abs c.m) (2 ^ k) (omega (arith, ints, clamps, some)) in
    omega (arith, size, p, l, small t z bits r))

-- a stored integer that is tested against the range of a type of the same bits
pub within_stored : (r : Option ℤ) (a t : NumericType) (c : Dyadic) (k : ℕ) (z : ℤ) → a.signed ≡ t.signed → a.word ≡ t.word → c.e +ℤ t.fraction ≡ pos k → z ≡ c.m *ℤ pos (2 ^ k) → IfSome r (λ w. (w ≡ z) × IsInRange a z) → IfNone r (IsInRange a z → ⊥) → r ≡ stored_in t (exact_of c)
within_stored (Some w) a t c k z s b e v h g =
    ap Some h.0 ∙ some_stored t c k z e v (record { least = subst (λ (y : ℤ). y ≤ℤ z) (λ i. least_of (s i) (b i)) h.1.least; most = subst (λ (y : ℤ). z ≤ℤ y) (λ i. greatest_of (s i) (b i)) h.1.most })
within_stored None a t c k z s b e v h g =
    out_stored t c k z e v (λ r. g (record { least = subst (λ (y : ℤ). y ≤ℤ z) (λ i. least_of (sym s i) (sym b i)) r.least; most = subst (λ (y : ℤ). z ≤ℤ y) (λ i. greatest_of (sym s i) (sym b i)) r.most }))
