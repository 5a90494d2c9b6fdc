-- Each row, each action and each quantisation has one result at most.
use Rattle.std.proofs.Common.{ℕ, ◌+◌, ◌*◌, ◌-◌, ◌^◌, ◌%◌, ◌<◌, ◌≤◌, ◌≡◌, ap, ◌∙◌, subst, Bool, true, false, arith}
use Rattle.std.specs.Prelude.{ℤ, pos, negsuc, ◌+ℤ◌, ◌-ℤ◌, ◌*ℤ◌, ◌≤ℤ◌, ◌<ℤ◌, neg_ℤ, nat_abs}
use Rattle.std.proofs.lemmas.Int.{ints, by_lt_z}
use Rattle.std.proofs.lemmas.Nat.{pow_pos, mul-le}
use borrow.Author.Differences.{up, down}
use Rattle.num_type.specs.declared.methods.Rounding.{Rounding}
use Rattle.num_type.specs.declared.methods.Rounding.TheVariants.{Ceiling, Floor, Zero, Nearest, Round, Convergent}
use Rattle.num_type.specs.declared.methods.Overflow.{Overflow}
use Rattle.num_type.specs.declared.methods.Overflow.TheVariants.{Saturate, Wrap}
use Rattle.num_type.specs.Types.{NumericType, least_of, greatest_of}
use Rattle.fi_quant.specs.Fit.{IsNearestIn, IsWrapped, IsFit, IsQuantised}
use Rattle.fi_quant.specs.Round.{IsFloor, IsCeiling, IsNearest, IsNearestAway, IsNearestEven, IsRounded, twice_off}
use Rattle.fi_quant.proofs.Signs.{distrib, neg-mul, twice-mul, size-signed}
use Rattle.fi_quant.proofs.Splits.{double}

pub scale_le : (a b : ℤ) (p : ℕ) → a ≤ℤ b → (a *ℤ pos p) ≤ℤ (b *ℤ pos p)
scale_le a b p h =
    let l : up a + down b ≤ up b + down a = omega (arith, ints) in
    let m : (up a + down b) * p ≤ (up b + down a) * p = mul-le (up a + down b) p (up b + down a) p l (omega arith) in
    omega (arith, ints)

floor_le : (z : ℤ) (p : ℕ) (q r : ℤ) → IsFloor z p q → IsFloor z p r → q ≤ℤ r
floor_le z p q r a b = by_lt_z r q
    (λ h. absurd (let m = scale_le (r +ℤ pos 1) q p (omega (arith, ints)) in omega (arith, ints)))
    (λ h. h)

ceiling_le : (z : ℤ) (p : ℕ) (q r : ℤ) → IsCeiling z p q → IsCeiling z p r → q ≤ℤ r
ceiling_le z p q r a b = by_lt_z r q
    (λ h. absurd (let m = scale_le r (q -ℤ pos 1) p (omega (arith, ints)) in omega (arith, ints)))
    (λ h. h)

pub nearest_le : (z : ℤ) (p : ℕ) (q r : ℤ) → IsNearest z p q → IsNearest z p r → q ≤ℤ r
nearest_le z p q r a b = by_lt_z r q
    (λ h. absurd (let m = scale_le (pos 2 *ℤ r +ℤ pos 1) (pos 2 *ℤ q -ℤ pos 1) p (omega (arith, ints)) in omega (arith, ints)))
    (λ h. h)

-- two numbers within half a step on both sides of z are neighbours, and z is halfway between
record Neighbours (z : ℤ) (p : ℕ) (r q : ℤ) : Type 0 where
  next : q ≡ r +ℤ pos 1
  above : pos 2 *ℤ (q *ℤ pos p) ≡ pos 2 *ℤ z +ℤ pos p
  below : pos 2 *ℤ z ≡ pos 2 *ℤ (r *ℤ pos p) +ℤ pos p
  off_q : twice_off z p q ≡ p
  off_r : twice_off z p r ≡ p

neighbours : (z : ℤ) (p : ℕ) (q r : ℤ) → 0 < p → twice_off z p q ≤ p → twice_off z p r ≤ p → r <ℤ q → Neighbours z p r q
neighbours z p q r s a b h =
    let m = scale_le (r +ℤ pos 1) q p (omega (arith, ints)) in
    let eq = twice-mul q p in
    let er = twice-mul r p in
    let d = distrib r (pos 1) p in
    record {
      next = by_lt_z (r +ℤ pos 1) q (λ k. absurd (let n = scale_le (r +ℤ pos 2) q p (omega (arith, ints)) in omega (arith, ints, distrib r (pos 2) p))) (λ k. omega (arith, ints));
      above = omega (arith, ints);
      below = omega (arith, ints);
      off_q = omega (arith, ints);
      off_r = omega (arith, ints);
    }

apart_even : (r q : ℤ) → q ≡ r +ℤ pos 1 → nat_abs q % 2 ≡ 0 → nat_abs r % 2 ≡ 0 → ⊥
apart_even r q e a b = omega (arith, ints)

even_le : (z : ℤ) (p : ℕ) (q r : ℤ) → 0 < p → IsNearestEven z p q → IsNearestEven z p r → q ≤ℤ r
even_le z p q r s a b = by_lt_z r q
    (λ h. absurd (let n = neighbours z p q r s a.near b.near h in apart_even r q n.next (a.tie n.off_q) (b.tie n.off_r)))
    (λ h. h)

away_apart : (z : ℤ) (p : ℕ) (r q : ℤ) → q ≡ r +ℤ pos 1 → pos 2 *ℤ (q *ℤ pos p) ≡ pos 2 *ℤ z +ℤ pos p → pos 2 *ℤ z ≡ pos 2 *ℤ (r *ℤ pos p) +ℤ pos p → nat_abs z < nat_abs q * p → nat_abs z < nat_abs r * p → ⊥
away_apart z p (pos n) q e a b tq tr = omega (arith, ints)
away_apart z p (negsuc n) q e a b tq tr =
    let f : q ≡ neg_ℤ (pos n) = omega (arith, ints) in
    let tn : nat_abs z < n * p = subst (λ (i : ℕ). nat_abs z < i * p) (ap nat_abs f ∙ size-signed true n) tq in
    let an : pos 2 *ℤ neg_ℤ (pos (n * p)) ≡ pos 2 *ℤ z +ℤ pos p = subst (λ (x : ℤ). pos 2 *ℤ x ≡ pos 2 *ℤ z +ℤ pos p) (ap (λ (x : ℤ). x *ℤ pos p) f ∙ neg-mul n p) a in
    omega (arith, ints)

away_le : (z : ℤ) (p : ℕ) (q r : ℤ) → 0 < p → IsNearestAway z p q → IsNearestAway z p r → q ≤ℤ r
away_le z p q r s a b = by_lt_z r q
    (λ h. absurd (let n = neighbours z p q r s a.near b.near h in away_apart z p r q n.next n.above n.below (a.tie n.off_q) (b.tie n.off_r)))
    (λ h. h)

pub both_ways : (a b : ℤ) → a ≤ℤ b → b ≤ℤ a → a ≡ b
both_ways a b h k = omega (arith, ints)

-- a number is rounded to one number at most
pub rounded_once : (method : Rounding) (z : ℤ) (k : ℕ) (q r : ℤ) → IsRounded method z k q → IsRounded method z k r → q ≡ r
rounded_once Ceiling z k q r a b = both_ways q r (ceiling_le z (2 ^ k) q r a b) (ceiling_le z (2 ^ k) r q b a)
rounded_once Floor z k q r a b = both_ways q r (floor_le z (2 ^ k) q r a b) (floor_le z (2 ^ k) r q b a)
rounded_once Zero z k q r a b = by_lt_z z (pos 0)
    (λ h. both_ways q r (ceiling_le z (2 ^ k) q r (a.from_below h) (b.from_below h)) (ceiling_le z (2 ^ k) r q (b.from_below h) (a.from_below h)))
    (λ h. both_ways q r (floor_le z (2 ^ k) q r (a.from_above h) (b.from_above h)) (floor_le z (2 ^ k) r q (b.from_above h) (a.from_above h)))
rounded_once Nearest z k q r a b = both_ways q r (nearest_le z (2 ^ k) q r a b) (nearest_le z (2 ^ k) r q b a)
rounded_once Round z k q r a b = both_ways q r (away_le z (2 ^ k) q r (pow_pos k) a b) (away_le z (2 ^ k) r q (pow_pos k) b a)
rounded_once Convergent z k q r a b = both_ways q r (even_le z (2 ^ k) q r (pow_pos k) a b) (even_le z (2 ^ k) r q (pow_pos k) b a)

-- ---- the actions
nearest_in_once : (low high z q r : ℤ) → IsNearestIn low high z q → IsNearestIn low high z r → q ≡ r
nearest_in_once low high z q r a b =
    let x = a.nearest r b.least b.most in
    let y = b.nearest q a.least a.most in
    by_lt_z q r
    (λ h. absurd (let m = a.nearest (q +ℤ pos 1) (omega (arith, ints)) (omega (arith, ints)) in omega (arith, ints)))
    (λ h. by_lt_z r q
    (λ k. absurd (let m = a.nearest (q -ℤ pos 1) (omega (arith, ints)) (omega (arith, ints)) in omega (arith, ints)))
    (λ k. both_ways q r k h))

-- two numbers of a range of m that differ by a multiple of m are one
wrapped_le : (low high : ℤ) (m : ℕ) (z q r : ℤ) → high +ℤ pos 1 ≡ low +ℤ pos m → IsWrapped low high m z q → IsWrapped low high m z r → q ≤ℤ r
wrapped_le low high m z q r w a b =
    let ea = a.congruent in
    let eb = b.congruent in
    by_lt_z a.turns b.turns
    (λ h. absurd (let s = scale_le (a.turns +ℤ pos 1) b.turns m (omega (arith, ints)) in omega (arith, ints, distrib a.turns (pos 1) m)))
    (λ h. let s = scale_le b.turns a.turns m h in omega (arith, ints))

pub width : (sg : Bool) (w : ℕ) → 0 < w → greatest_of sg w +ℤ pos 1 ≡ least_of sg w +ℤ pos (2 ^ w)
width true w h = omega (arith, ints, double w h, pow_pos (w - 1))
width false w h = omega (arith, ints, pow_pos w)

-- an action has one result at most
pub fit_once : (action : Overflow) (t : NumericType) (z q r : ℤ) → 1 ≤ t.word → IsFit action t z q → IsFit action t z r → q ≡ r
fit_once Saturate t z q r one a b = nearest_in_once (least_of t.signed t.word) (greatest_of t.signed t.word) z q r a b
fit_once Wrap t z q r one a b =
    let w = width t.signed t.word one in
    both_ways q r
    (wrapped_le (least_of t.signed t.word) (greatest_of t.signed t.word) (2 ^ t.word) z q r w a b)
    (wrapped_le (least_of t.signed t.word) (greatest_of t.signed t.word) (2 ^ t.word) z r q w b a)

pub apart_by : (a b : ℤ) → b ≤ℤ a → a ≡ b +ℤ pos (nat_abs (a -ℤ b))
apart_by a b h = omega (arith, ints)

-- a quantisation has one result at most
pub quantised_once : (m : Rounding) (a : Overflow) (t : NumericType) (z f q r : ℤ) → 1 ≤ t.word → IsQuantised m a t z f q → IsQuantised m a t z f r → q ≡ r
quantised_once m a t z f q r one x y = by_lt_z t.fraction f
    (λ h.
    let k : ℕ = nat_abs (f -ℤ t.fraction) in
    let e : f ≡ t.fraction +ℤ pos k = apart_by f t.fraction (omega (arith, ints)) in
    let p : 0 < k = omega (arith, ints) in
    let u = x.narrowed k e p in
    let v = y.narrowed k e p in
    let same : u.0 ≡ v.0 = rounded_once m z k u.0 v.0 u.1 v.1 in
    fit_once a t v.0 q r one (subst (λ (i : ℤ). IsFit a t i q) same u.2) v.2)
    (λ h.
    let n : ℕ = nat_abs (t.fraction -ℤ f) in
    let e : t.fraction ≡ f +ℤ pos n = apart_by t.fraction f h in
    fit_once a t (z *ℤ pos (2 ^ n)) q r one (x.widened n e) (y.widened n e))
