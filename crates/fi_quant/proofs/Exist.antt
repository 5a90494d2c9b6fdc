-- The numbers that the functions give meet the definitions.
use Rattle.std.proofs.Common.{ℕ, suc, ◌+◌, ◌*◌, ◌-◌, ◌/◌, ◌^◌, ◌%◌, ◌<◌, ◌≤◌, ◌≡◌, ap, ◌∙◌, subst, refl, Bool, true, false, arith}
use Rattle.std.specs.Prelude.{ℤ, pos, negsuc, ◌+ℤ◌, ◌-ℤ◌, ◌*ℤ◌, ◌≤ℤ◌, ◌<ℤ◌, ◌==◌, neg_ℤ, nat_abs, if◌then◌else◌}
use Rattle.std.specs.Int.{int_max, int_min, int_rem_euclid}
use Rattle.std.proofs.lemmas.Int.{ints, clamps, by_lt_z}
use Rattle.std.proofs.lemmas.Nat.{pow_pos, mod_below, div-add-mod'}
use Rattle.std.proofs.lemmas.Bool.{eqb-true, eqb-false}
use Rattle.num_type.specs.declared.methods.Rounding.{Rounding}
use Rattle.num_type.specs.declared.methods.Rounding.TheVariants.{Ceiling, Floor, Zero, Nearest, Round, Convergent}
use Rattle.num_type.specs.declared.methods.Overflow.{Overflow}
use Rattle.num_type.specs.declared.methods.Overflow.TheVariants.{Saturate, Wrap}
use Rattle.num_type.specs.Whole.{signed}
use Rattle.num_type.specs.Types.{NumericType, low, high, IsInRange}
use Rattle.fi_quant.specs.Round.{IsFloor, IsCeiling, IsNearest, IsNearestAway, IsNearestEven, IsRounded, twice_off}
use Rattle.fi_quant.specs.Fit.{IsNearestIn, IsWrapped, IsFit, IsQuantised}
use Rattle.fi_quant.specs.Numbers.{floor_of, ceiling_of, nearest_up, nearest_down, even_of, rounded, fitted, scaled, quantised}
use Rattle.fi_quant.proofs.Signs.{distrib, neg-mul, twice-mul}
use Rattle.fi_quant.proofs.Rows.{away_of}
use Rattle.fi_quant.proofs.Once.{scale_le, width}

-- ---- the methods

pub floor_is : (z : ℤ) (p : ℕ) → 0 < p → IsFloor z p (floor_of z p)
floor_is (pos n) p h =
    let e = div-add-mod' n p in
    let l = mod_below n p h in
    record { least = omega (arith, ints); most = omega (arith, ints) }
floor_is (negsuc n) p h =
    let e = div-add-mod' n p in
    let l = mod_below n p h in
    record { least = omega (arith, ints); most = omega (arith, ints, distrib (negsuc (n / p)) (pos 1) p) }

negated : (s : ℤ) (p : ℕ) → neg_ℤ s *ℤ pos p ≡ neg_ℤ (s *ℤ pos p)
negated s p = grind (arith, ints)

-- the ceiling is the floor of the negated number, negated
mirrored : (z : ℤ) (p : ℕ) (q : ℤ) → IsFloor (neg_ℤ z) p q → IsCeiling z p (neg_ℤ q)
mirrored z p q f = record {
  least = omega (arith, ints, f.most, distrib (neg_ℤ q) (neg_ℤ (pos 1)) p, distrib q (pos 1) p, neg-mul 1 p, negated q p);
  most = omega (arith, ints, f.least, negated q p);
}

pub ceiling_is : (z : ℤ) (p : ℕ) → 0 < p → IsCeiling z p (ceiling_of z p)
ceiling_is z p h = mirrored z p (floor_of (neg_ℤ z) p) (floor_is (neg_ℤ z) p h)

-- twice a step
wide : (q : ℤ) (p : ℕ) → q *ℤ pos (2 * p) ≡ pos 2 *ℤ (q *ℤ pos p)
wide (pos n) p = omega (arith, ints)
wide (negsuc n) p = omega (arith, ints)

-- the nearest number of z / p is the floor of (2 * z + p) / (2 * p)
halved : (z : ℤ) (p : ℕ) (q : ℤ) → IsFloor (pos 2 *ℤ z +ℤ pos p) (2 * p) q → IsNearest z p q
halved z p q f = record {
  least = omega (arith, ints, f.least, wide q p, distrib (pos 2 *ℤ q) (neg_ℤ (pos 1)) p, neg-mul 1 p, twice-mul q p);
  most = omega (arith, ints, f.most, distrib q (pos 1) (2 * p), wide q p, distrib (pos 2 *ℤ q) (pos 1) p, twice-mul q p);
}

pub nearest_is : (z : ℤ) (p : ℕ) → 0 < p → IsNearest z p (nearest_up z p)
nearest_is z p h = halved z p (nearest_up z p) (floor_is (pos 2 *ℤ z +ℤ pos p) (2 * p) (omega arith))

-- the two inequalities without products of sums
record IsUp (z : ℤ) (p : ℕ) (q : ℤ) : Type 0 where
  least : (pos 2 *ℤ (q *ℤ pos p)) ≤ℤ (pos 2 *ℤ z +ℤ pos p)
  most : (pos 2 *ℤ z) <ℤ (pos 2 *ℤ (q *ℤ pos p) +ℤ pos p)

record IsDown (z : ℤ) (p : ℕ) (q : ℤ) : Type 0 where
  least : (pos 2 *ℤ (q *ℤ pos p)) <ℤ (pos 2 *ℤ z +ℤ pos p)
  most : (pos 2 *ℤ z) ≤ℤ (pos 2 *ℤ (q *ℤ pos p) +ℤ pos p)

up_is : (z : ℤ) (p : ℕ) (q : ℤ) → IsNearest z p q → IsUp z p q
up_is z p q f = record {
  least = omega (arith, ints, f.least, distrib (pos 2 *ℤ q) (neg_ℤ (pos 1)) p, neg-mul 1 p, twice-mul q p);
  most = omega (arith, ints, f.most, distrib (pos 2 *ℤ q) (pos 1) p, twice-mul q p);
}

down_is : (z : ℤ) (p : ℕ) (q : ℤ) → IsUp (neg_ℤ z) p q → IsDown z p (neg_ℤ q)
down_is z p q f = record {
  least = omega (arith, ints, f.most, negated q p);
  most = omega (arith, ints, f.least, negated q p);
}

-- a tie of the lower one is below the upper one
tie_up : (z : ℤ) (p : ℕ) (u d : ℤ) → 0 < p → IsUp z p u → IsDown z p d → twice_off z p d ≡ p → u ≡ d +ℤ pos 1
tie_up z p u d h a b e =
    let al = a.least in
    let am = a.most in
    let bl = b.least in
    let bm = b.most in
    let t = twice-mul d p in
    let one = distrib d (pos 1) p in
    let two = distrib d (pos 2) p in
    let half : pos 2 *ℤ z ≡ pos 2 *ℤ (d *ℤ pos p) +ℤ pos p = omega (arith, ints) in
    by_lt_z u (d +ℤ pos 1)
    (λ k. absurd (let m = scale_le u d p (omega (arith, ints)) in omega (arith, ints)))
    (λ k. by_lt_z (d +ℤ pos 1) u
    (λ l. absurd (let m = scale_le (d +ℤ pos 2) u p (omega (arith, ints)) in omega (arith, ints)))
    (λ l. omega (arith, ints)))

near_up : (z : ℤ) (p : ℕ) (q : ℤ) → IsUp z p q → twice_off z p q ≤ p
near_up z p q a = omega (arith, ints, a.least, a.most, twice-mul q p)

near_down : (z : ℤ) (p : ℕ) (q : ℤ) → IsDown z p q → twice_off z p q ≤ p
near_down z p q a = omega (arith, ints, a.least, a.most, twice-mul q p)

even_below : (u d : ℤ) → u ≡ d +ℤ pos 1 → (nat_abs u % 2 ≡ 0 → ⊥) → nat_abs d % 2 ≡ 0
even_below u d e h = omega (arith, ints, h)

even_of_is : (z : ℤ) (p : ℕ) (u d : ℤ) → 0 < p → IsUp z p u → IsDown z p d → (b : Bool) → (nat_abs u % 2 == 0) ≡ b → IsNearestEven z p (if b then u else d)
even_of_is z p u d h a b true e = record { near = near_up z p u a; tie = λ _. eqb-true (nat_abs u % 2) 0 e }
even_of_is z p u d h a b false e = record {
  near = near_down z p d b;
  tie = λ t. even_below u d (tie_up z p u d h a b t) (eqb-false (nat_abs u % 2) 0 e);
}

pub even_is : (z : ℤ) (p : ℕ) → 0 < p → IsNearestEven z p (even_of (nearest_up z p) (nearest_down z p))
even_is z p h =
    let a = up_is z p (nearest_up z p) (nearest_is z p h) in
    let b = down_is z p (nearest_up (neg_ℤ z) p) (up_is (neg_ℤ z) p (nearest_up (neg_ℤ z) p) (nearest_is (neg_ℤ z) p h)) in
    even_of_is z p (nearest_up z p) (nearest_down z p) h a b (nat_abs (nearest_up z p) % 2 == 0) refl

-- a size at a tie moves away from 0
away_is : (s : Bool) (n p : ℕ) → 0 < p → IsNearestAway (signed s n) p (signed s ((2 * n + p) / (2 * p)))
away_is s n p h =
    let e = div-add-mod' (2 * n + p) (2 * p) in
    let l = mod_below (2 * n + p) (2 * p) (omega arith) in
    let q : ℕ = (2 * n + p) / (2 * p) in
    let w : q * (2 * p) ≡ 2 * (q * p) = omega arith in
    away_of s n q p (omega arith) (omega arith) (λ t. omega arith) h

-- each method's number meets its definition
pub rounded_is : (m : Rounding) (z : ℤ) (k : ℕ) → IsRounded m z k (rounded m z k)
unfolding rounded
rounded_is Ceiling z k = ceiling_is z (2 ^ k) (pow_pos k)
rounded_is Floor z k = floor_is z (2 ^ k) (pow_pos k)
rounded_is Zero (pos n) k = record { from_above = λ h. floor_is (pos n) (2 ^ k) (pow_pos k); from_below = λ h. absurd (omega (arith, ints, h)) }
rounded_is Zero (negsuc n) k = record { from_above = λ h. absurd (omega (arith, ints, h)); from_below = λ h. ceiling_is (negsuc n) (2 ^ k) (pow_pos k) }
rounded_is Nearest z k = nearest_is z (2 ^ k) (pow_pos k)
rounded_is Round (pos n) k = away_is false n (2 ^ k) (pow_pos k)
rounded_is Round (negsuc n) k = away_is true (suc n) (2 ^ k) (pow_pos k)
rounded_is Convergent z k = even_is z (2 ^ k) (pow_pos k)

-- ---- the actions

pub nearest_in_is : (bottom top z : ℤ) → bottom ≤ℤ top → IsNearestIn bottom top z (int_max bottom (int_min top z))
nearest_in_is bottom top z h = record {
  least = omega (arith, ints, clamps);
  most = omega (arith, ints, clamps);
  nearest = λ w a b. omega (arith, ints, clamps);
}

-- a number from a natural one up to its remainder
pub record IsRemainder (x : ℤ) (m : ℕ) (r : ℤ) : Type 0 where
  pub least : pos 0 ≤ℤ r
  pub most : r <ℤ pos m
  pub turns : ℤ
  pub congruent : x ≡ r +ℤ turns *ℤ pos m

pub remainder_is : (x : ℤ) (m : ℕ) → 0 < m → IsRemainder x m (int_rem_euclid x (pos m))
remainder_is (pos a) m h =
    let e = div-add-mod' a m in
    let l = mod_below a m h in
    record { least = omega (arith, ints); most = omega (arith, ints); turns = pos (a / m); congruent = omega (arith, ints) }
remainder_is (negsuc a) m h =
    let e = div-add-mod' a m in
    let l = mod_below a m h in
    record { least = omega (arith, ints); most = omega (arith, ints); turns = negsuc (a / m); congruent = omega (arith, ints) }

pub wrapped_is : (bottom top z : ℤ) (m : ℕ) → top +ℤ pos 1 ≡ bottom +ℤ pos m → 0 < m → IsWrapped bottom top m z (bottom +ℤ int_rem_euclid (z -ℤ bottom) (pos m))
wrapped_is bottom top z m w h =
    let r = remainder_is (z -ℤ bottom) m h in
    let l = r.least in
    let k = r.most in
    let c = r.congruent in
    record { least = omega (arith, ints); most = omega (arith, ints); turns = r.turns; congruent = omega (arith, ints) }

-- each action's number meets its definition
pub fitted_is : (a : Overflow) (t : NumericType) (z : ℤ) → 1 ≤ t.word → IsFit a t z (fitted a t z)
unfolding fitted
fitted_is Saturate t z h =
    let w : high t +ℤ pos 1 ≡ low t +ℤ pos (2 ^ t.word) = width t.signed t.word h in
    nearest_in_is (low t) (high t) z (omega (arith, ints, pow_pos t.word))
fitted_is Wrap t z h = wrapped_is (low t) (high t) z (2 ^ t.word) (width t.signed t.word h) (pow_pos t.word)

-- what an action gives is in the range
pub fit_inside : (a : Overflow) (t : NumericType) (z q : ℤ) → IsFit a t z q → IsInRange t q
fit_inside Saturate t z q f = record { least = f.least; most = f.most }
fit_inside Wrap t z q f = record { least = f.least; most = f.most }

pub fitted_inside : (a : Overflow) (t : NumericType) (z : ℤ) → 1 ≤ t.word → IsInRange t (fitted a t z)
fitted_inside a t z h = fit_inside a t z (fitted a t z) (fitted_is a t z h)

-- ---- quantising

pub scaled_up : (m : Rounding) (z d : ℤ) (n : ℕ) → d ≡ pos n → scaled m z d ≡ z *ℤ pos (2 ^ n)
unfolding scaled
scaled_up m z d n e = rw e refl

scaled_down : (m : Rounding) (z d : ℤ) (k : ℕ) → d ≡ negsuc k → scaled m z d ≡ rounded m z (suc k)
unfolding scaled
scaled_down m z d k e = rw e refl

pub quantised_is : (m : Rounding) (a : Overflow) (t : NumericType) (z f : ℤ) → 1 ≤ t.word → IsQuantised m a t z f (quantised m a t z f)
unfolding quantised
quantised_is m a t z f h = record {
  widened = λ n e.
      let s : scaled m z (t.fraction -ℤ f) ≡ z *ℤ pos (2 ^ n) = scaled_up m z (t.fraction -ℤ f) n (omega (arith, ints)) in
      subst (λ (x : ℤ). IsFit a t x (fitted a t (scaled m z (t.fraction -ℤ f)))) s (fitted_is a t (scaled m z (t.fraction -ℤ f)) h);
  narrowed = λ k e l.
      let c : suc (k - 1) ≡ k = omega arith in
      let s : scaled m z (t.fraction -ℤ f) ≡ rounded m z k = scaled_down m z (t.fraction -ℤ f) (k - 1) (omega (arith, ints)) ∙ ap (rounded m z) c in (
        rounded m z k,
        rounded_is m z k,
        subst (λ (x : ℤ). IsFit a t x (fitted a t (scaled m z (t.fraction -ℤ f)))) s (fitted_is a t (scaled m z (t.fraction -ℤ f)) h),
      );
}

pub quantised_inside : (m : Rounding) (a : Overflow) (t : NumericType) (z f : ℤ) → 1 ≤ t.word → IsInRange t (quantised m a t z f)
unfolding quantised
quantised_inside m a t z f h = fitted_inside a t (scaled m z (t.fraction -ℤ f)) h
