-- Stored integers of numbers that a fraction length holds exactly.
use Rattle.std.proofs.Common.{◌≡◌, ◌↔◌, ℕ, zero, suc, ◌*◌, ◌/◌, ◌^◌, ◌%◌, ◌<◌, Bool, true, false, refl, sym, ap, subst, ◌∙◌, arith}
use Rattle.std.specs.Prelude.{◌==◌, ◌&&◌, if◌then◌else◌, int_le, IsTrue, ℤ, pos, negsuc, ◌+ℤ◌, ◌-ℤ◌, ◌*ℤ◌, ◌≤ℤ◌, ◌<ℤ◌, neg_ℤ, nat_abs, Option, Some, None, unwrap_or}
use Rattle.std.proofs.lemmas.Int.{ints, clamps}
use Rattle.std.proofs.lemmas.Bool.{eqb-true, eq-eqb, and_parts, and_from, false≢true}
use Rattle.std.proofs.lemmas.Nat.{pow_pos, shl-shr, div-add-mod'}
use Rattle.std.proofs.Math.Nat.{mul-mod_left, suc-mul}
use Rattle.num_type.specs.Constants.{Exact, IsSame, common}
use Rattle.num_type.specs.Precision.{whole, scaled, counted, as_counted, IsAtMost, IsBelow, IsHeld}
use Rattle.num_type.specs.Types.{NumericType, IsInRange, low, high}
use Rattle.num_type.specs.Whole.{signed, is_below_zero}
use Rattle.num_type.proofs.Constants.{same_at, same_from, same_turned, units_at, double, times_one, abs_times, signed-mul}
use Rattle.const_rules.specs.Stored.{is_whole, whole_of, is_exact_at, stored_at, stored_within, stored_in, whole_within}
use Rattle.const_rules.proofs.OneForm.{by_sign, at_most, at_most_is}

-- an exponent of 0 or more
whole_up : (z m e : ℤ) (k : ℕ) → e ≡ pos k → IsSame (whole z) (record { significand = m; exponent = e }) ↔ (z ≡ m *ℤ pos (2 ^ k))
whole_up z m e k p = (
  λ h. sym (times_one z) ∙ same_from (pos 0) (whole z) (record { significand = m; exponent = e }) 0 k (omega (arith, ints)) (omega (arith, ints, p)) h,
  λ h. same_at (pos 0) (whole z) (record { significand = m; exponent = e }) 0 k (omega (arith, ints)) (omega (arith, ints, p)) (times_one z ∙ h),
)

-- one below 0
whole_down : (z m e : ℤ) (k : ℕ) → e ≡ negsuc k → IsSame (whole z) (record { significand = m; exponent = e }) ↔ (z *ℤ pos (2 ^ suc k) ≡ m)
whole_down z m e k p = (
  λ h. same_from (negsuc k) (whole z) (record { significand = m; exponent = e }) (suc k) 0 (omega (arith, ints)) (omega (arith, ints, p)) h ∙ times_one m,
  λ h. same_at (negsuc k) (whole z) (record { significand = m; exponent = e }) (suc k) 0 (omega (arith, ints)) (omega (arith, ints, p)) (h ∙ sym (times_one m)),
)

-- Quotients by powers of 2

below_zero : (j : ℕ) → 0 < j → is_below_zero (neg_ℤ (pos j)) ≡ true
below_zero zero some = absurd (omega (arith, some))
below_zero (suc j) some = refl

sign_times : (z : ℤ) (k : ℕ) → is_below_zero (z *ℤ pos (2 ^ k)) ≡ is_below_zero z
sign_times (pos n) k = refl
sign_times (negsuc n) k = below_zero (suc n * 2 ^ k) (positive n (2 ^ k) (pow_pos k))
  where
    positive : (n p : ℕ) → 0 < p → 0 < suc n * p
    positive n p some = omega (arith, some, suc-mul n p)

quotient_of : (z m : ℤ) (k : ℕ) → z *ℤ pos (2 ^ k) ≡ m → z ≡ signed (is_below_zero m) (nat_abs m / 2 ^ k)
quotient_of z m k e =
    let size : nat_abs m / 2 ^ k ≡ nat_abs z = ap (λ (n : ℕ). n / 2 ^ k) (sym (ap nat_abs e) ∙ abs_times z (2 ^ k)) ∙ shl-shr (nat_abs z) k in
    let sign : is_below_zero m ≡ is_below_zero z = sym (ap is_below_zero e) ∙ sign_times z k in
    sym (by_sign z) ∙ (λ i. signed (sym sign i) (sym size i))

divides : (z m : ℤ) (k : ℕ) → z *ℤ pos (2 ^ k) ≡ m → (nat_abs m % 2 ^ k == 0) ≡ true
divides z m k e =
    let rest : nat_abs m % 2 ^ k ≡ 0 = ap (λ (n : ℕ). n % 2 ^ k) (sym (ap nat_abs e) ∙ abs_times z (2 ^ k)) ∙ mul-mod_left (nat_abs z) (2 ^ k) in
    eq-eqb (nat_abs m % 2 ^ k) 0 rest

quotient_is : (m : ℤ) (k : ℕ) → (nat_abs m % 2 ^ k == 0) ≡ true → signed (is_below_zero m) (nat_abs m / 2 ^ k) *ℤ pos (2 ^ k) ≡ m
quotient_is m k h =
    let size : nat_abs m / 2 ^ k * 2 ^ k ≡ nat_abs m = omega (arith, div-add-mod' (nat_abs m) (2 ^ k), eqb-true (nat_abs m % 2 ^ k) 0 h) in
    signed-mul (is_below_zero m) (nat_abs m / 2 ^ k) (2 ^ k) ∙ ap (signed (is_below_zero m)) size ∙ by_sign m

-- Whole numbers

whole_is : (z m e d : ℤ) → e ≡ d → IsSame (whole z) (record { significand = m; exponent = e }) ↔ (IsTrue (is_whole m d) × (z ≡ whole_of m d))
whole_is z m e (pos k) p =
    let r = whole_up z m e k p in
    (λ h. (refl, r.0 h), λ h. r.1 h.1)
whole_is z m e (negsuc k) p =
    let r = whole_down z m e k p in (
      λ h. let f = r.0 h in (divides z m (suc k) f, quotient_of z m (suc k) f),
      λ h. r.1 (ap (λ (y : ℤ). y *ℤ pos (2 ^ suc k)) h.1 ∙ quotient_is m (suc k) h.0),
    )

-- the number times 2 ^ fraction is a whole number exactly where the test says so, and then the stored integer
pub stored_is : (x : Exact) (fraction z : ℤ) → IsSame (whole z) (scaled fraction x) ↔ (IsTrue (is_exact_at x fraction) × (z ≡ stored_at x fraction))
unfolding is_exact_at stored_at
stored_is x fraction z = whole_is z x.significand (x.exponent +ℤ fraction) (x.exponent +ℤ fraction) refl

-- Bounds

same_value : (w z : ℤ) → Some w ≡ Some z → w ≡ z
same_value w z e = ap (λ (o : Option ℤ). unwrap_or o w) e

no_value : (z : ℤ) → None ≡ Some z → ⊥
no_value z e = cc

-- there is a stored integer between bounds exactly where the number is one
pub stored_within_is : (least most fraction : ℤ) (x : Exact) (z : ℤ) → (stored_within least most fraction x ≡ Some z) ↔ (IsSame (whole z) (scaled fraction x) × (least ≤ℤ z) × (z ≤ℤ most))
unfolding stored_within
stored_within_is least most fraction x z =
    by (is_exact_at x fraction && (int_le least (stored_at x fraction) && int_le (stored_at x fraction) most)) refl
  where
    by : (b : Bool) → (is_exact_at x fraction && (int_le least (stored_at x fraction) && int_le (stored_at x fraction) most)) ≡ b → ((if b then Some (stored_at x fraction) else None) ≡ Some z) ↔ (IsSame (whole z) (scaled fraction x) × (least ≤ℤ z) × (z ≤ℤ most))
    by true e =
        let p = and_parts (is_exact_at x fraction) (int_le least (stored_at x fraction) && int_le (stored_at x fraction) most) e in
        let q = and_parts (int_le least (stored_at x fraction)) (int_le (stored_at x fraction) most) p.1 in (
          λ h.
              let s : stored_at x fraction ≡ z = same_value (stored_at x fraction) z h in
              ((stored_is x fraction z).1 (p.0, sym s), subst (λ (y : ℤ). least ≤ℤ y) s (at_most least (stored_at x fraction) q.0), subst (λ (y : ℤ). y ≤ℤ most) s (at_most (stored_at x fraction) most q.1)),
          λ h. ap Some (sym ((stored_is x fraction z).0 h.0).1),
        )
    by false e = (
      λ h. absurd (no_value z h),
      λ h.
          let r = (stored_is x fraction z).0 h.0 in
          let down : least ≤ℤ stored_at x fraction = subst (λ (y : ℤ). least ≤ℤ y) r.1 h.1 in
          let up : stored_at x fraction ≤ℤ most = subst (λ (y : ℤ). y ≤ℤ most) r.1 h.2 in
          absurd (false≢true (sym e ∙ and_from (is_exact_at x fraction) (int_le least (stored_at x fraction) && int_le (stored_at x fraction) most) r.0 (
          and_from (int_le least (stored_at x fraction)) (int_le (stored_at x fraction) most) (at_most_is least (stored_at x fraction) down) (at_most_is (stored_at x fraction) most up)
          ))),
    )

pub stored_in_is : (t : NumericType) (x : Exact) (z : ℤ) → (stored_in t x ≡ Some z) ↔ (IsSame (whole z) (scaled t.fraction x) × IsInRange t z)
stored_in_is t x z =
    let r = stored_within_is (low t) (high t) t.fraction x z in (
      λ h. let k = r.0 h in (k.0, record { least = k.1; most = k.2 }),
      λ h. r.1 (h.0, h.1.least, h.1.most),
    )

unscaled : (x : Exact) → scaled (pos 0) x ≡ x
unscaled x = let e : x.exponent +ℤ pos 0 ≡ x.exponent = omega (arith, ints) in λ i. record { significand = x.significand; exponent = e i }

pub whole_within_is : (least most : ℤ) (x : Exact) (z : ℤ) → (whole_within least most x ≡ Some z) ↔ (IsSame (whole z) x × (least ≤ℤ z) × (z ≤ℤ most))
whole_within_is least most x z =
    subst (λ (y : Exact). (whole_within least most x ≡ Some z) ↔ (IsSame (whole z) y × (least ≤ℤ z) × (z ≤ℤ most))) (unscaled x) (stored_within_is least most (pos 0) x z)

-- Numbers that a type holds

at_most_cancel : (a z : ℤ) (k : ℕ) → (a *ℤ pos (2 ^ k)) ≤ℤ (z *ℤ pos (2 ^ k)) → a ≤ℤ z
at_most_cancel a z zero h = omega (arith, ints, h, times_one a, times_one z)
at_most_cancel a z (suc k) h = at_most_cancel a z k (omega (arith, ints, h, double a k, double z k))

below_cancel : (z b : ℤ) (k : ℕ) → (z *ℤ pos (2 ^ k)) <ℤ (b *ℤ pos (2 ^ k)) → z <ℤ b
below_cancel z b zero h = omega (arith, ints, h, times_one z, times_one b)
below_cancel z b (suc k) h = below_cancel z b k (omega (arith, ints, h, double z k, double b k))

at_most_whole : (a z : ℤ) (y : Exact) → IsSame (whole z) y → IsAtMost (whole a) y → a ≤ℤ z
at_most_whole a z y h l =
    let c : ℤ = common (whole z) y in
    let k : ℕ = nat_abs (pos 0 -ℤ c) in
    let e : pos 0 ≡ c +ℤ pos k = omega (arith, ints, clamps) in
    at_most_cancel a z k (omega (arith, ints, units_at c (whole a) k e, units_at c (whole z) k e, h, l))

below_whole : (z b : ℤ) (y : Exact) → IsSame y (whole z) → IsBelow y (whole b) → z <ℤ b
below_whole z b y h l =
    let c : ℤ = common y (whole z) in
    let k : ℕ = nat_abs (pos 0 -ℤ c) in
    let e : pos 0 ≡ c +ℤ pos k = omega (arith, ints, clamps) in
    below_cancel z b k (omega (arith, ints, units_at c (whole b) k e, units_at c (whole z) k e, h, l))

-- a number that a type holds, and that counts as itself, has a stored integer where it is exact
pub held_is_stored : (t : NumericType) (x : Exact) → IsHeld t.signed t.word t.fraction x → counted t.signed x.significand ≡ x.significand → IsTrue (is_exact_at x t.fraction) → IsInRange t (stored_at x t.fraction)
held_is_stored t x h own exact =
    let z : ℤ = stored_at x t.fraction in
    let y : Exact = scaled t.fraction x in
    let same : IsSame (whole z) y = (stored_is x t.fraction z).1 (exact, refl) in
    let is : as_counted t.signed x ≡ x = λ i. record { significand = own i; exponent = x.exponent } in
    let least : IsAtMost (whole (low t)) y = subst (λ (w : Exact). IsAtMost (whole (low t)) (scaled t.fraction w)) is h.least in
    let most : IsBelow y (whole (high t +ℤ pos 1)) = subst (λ (w : Exact). IsBelow (scaled t.fraction w) (whole (high t +ℤ pos 1))) is h.most in
    let top : z <ℤ (high t +ℤ pos 1) = below_whole z (high t +ℤ pos 1) y (same_turned (whole z) y same) most in
    record { least = at_most_whole (low t) z y same least; most = omega (arith, ints, top) }
