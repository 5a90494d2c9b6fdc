-- Powers of exact numbers, and which of them are constants.
use Rattle.std.proofs.Common.{◌≡◌, ◌⊎◌, inl, inr, ◌↔◌, ℕ, zero, suc, ◌+◌, ◌-◌, ◌*◌, ◌/◌, ◌^◌, ◌%◌, ◌<◌, ◌≤◌, refl, ap, subst, ◌∙◌, arith}
use Rattle.std.specs.Prelude.{Option, Some, None, IsSome, IfNone, ℤ, pos, negsuc, ◌*ℤ◌, ◌≤ℤ◌, neg_ℤ, nat_abs}
use Rattle.std.proofs.lemmas.Int.{ints}
use Rattle.std.proofs.lemmas.Nat.{mul-le, pow_pos, pow-add}
use Rattle.num_type.specs.Constants.{Exact, IsSame, IsConstant, IsKept, product_of}
use Rattle.num_type.specs.View.{exact_of}
use Rattle.num_type.specs.declared.dyadic.Dyadic.{Dyadic}
use Rattle.num_type.proofs.Constants.{same_through, same_turned, constant_same, constant_kept, kept_constant, zero_constant, zero_or, not_true}
use Rattle.num_type.proofs.Sums.{constant_of}
use Rattle.const_eval.specs.Powers.{power_of, IsPowerOf, NoPowerOf}
use Rattle.const_eval.proofs.Alike.{product_same}

-- Sizes of products

pub abs_mul : (x y : ℤ) → nat_abs (x *ℤ y) ≡ nat_abs x * nat_abs y
abs_mul (pos a) (pos b) = refl
abs_mul (pos a) (negsuc b) = let e : nat_abs (neg_ℤ (pos (a * suc b))) ≡ a * suc b = omega (arith, ints) in e
abs_mul (negsuc a) (pos b) = let e : nat_abs (neg_ℤ (pos (suc a * b))) ≡ suc a * b = omega (arith, ints) in e
abs_mul (negsuc a) (negsuc b) = refl

odd_mul : (p q : ℕ) → p % 2 ≡ 1 → q % 2 ≡ 1 → p * q % 2 ≡ 1
odd_mul p q f g =
    let h : ℕ = p / 2 in
    let split : p ≡ 2 * h + 1 = omega (arith, f) in
    let wide : p * q ≡ 2 * (h * q) + q = ap (λ (x : ℕ). x * q) split ∙ widened h q in
    omega (arith, wide, g)
  where
    widened : (h q : ℕ) → (2 * h + 1) * q ≡ 2 * (h * q) + q
    widened h q = omega arith

power_odd : (x : Exact) (n : ℕ) → nat_abs x.significand % 2 ≡ 1 → nat_abs (power_of x n).significand % 2 ≡ 1
power_odd x zero odd = refl
power_odd x (suc n) odd =
    ap (λ (k : ℕ). k % 2) (abs_mul (power_of x n).significand x.significand)
    ∙ odd_mul (nat_abs (power_of x n).significand) (nat_abs x.significand) (power_odd x n odd) odd

-- Exponents

up : (x : Exact) (n : ℕ) → pos 0 ≤ℤ x.exponent → pos 0 ≤ℤ (power_of x n).exponent
up x zero h = omega (arith, ints)
up x (suc n) h = omega (arith, ints, h, up x n h)

down : (x : Exact) (n : ℕ) → x.exponent ≤ℤ pos 0 → (power_of x n).exponent ≤ℤ pos 0
down x zero h = omega (arith, ints)
down x (suc n) h = omega (arith, ints, h, down x n h)

-- Where a power of an odd number is a constant, so are those before it

grows : (n m j k : ℕ) → 0 < m → j ≤ k → n * 2 ^ j ≤ n * m * 2 ^ k
grows n m j k some h = by (k - j) (omega (arith, h))
  where
    by : (d : ℕ) → k ≡ j + d → n * 2 ^ j ≤ n * m * 2 ^ k
    by d e =
        let p : 2 ^ k ≡ 2 ^ j * 2 ^ d = ap (λ (i : ℕ). 2 ^ i) e ∙ pow-add 2 j d in
        let one : 2 ^ j * 1 ≤ 2 ^ j * 2 ^ d = mul-le (2 ^ j) 1 (2 ^ j) (2 ^ d) (omega arith) (pow_pos d) in
        let two : n * 1 ≤ n * m = mul-le n 1 n m (omega arith) some in
        mul-le n (2 ^ j) (n * m) (2 ^ k) (omega (arith, two)) (omega (arith, one, p))

kept_before : (x : Exact) (n : ℕ) → nat_abs x.significand % 2 ≡ 1 → IsKept (nat_abs (power_of x (suc n)).significand) (power_of x (suc n)).exponent → IsKept (nat_abs (power_of x n).significand) (power_of x n).exponent
kept_before x n odd h = by x.exponent refl
  where
    by : (f : ℤ) → x.exponent ≡ f → IsKept (nat_abs (power_of x n).significand) (power_of x n).exponent
    by (pos f) e =
        let m : ℕ = nat_abs x.significand in
        let some : 0 < m = omega (arith, odd) in
        let is : nat_abs (power_of x (suc n)).significand ≡ nat_abs (power_of x n).significand * m = abs_mul (power_of x n).significand x.significand in
        let more : nat_abs (power_of x n).significand * 2 ^ 0 ≤ nat_abs (power_of x n).significand * m * 2 ^ 0 = grows (nat_abs (power_of x n).significand) m 0 0 some (omega arith) in
        record {
          bits = omega (arith, is, h.bits, more);
          least = omega (arith, ints, up x n (omega (arith, ints, e)));
          room = λ k g.
              let r : nat_abs (power_of x (suc n)).significand * 2 ^ (k + f) < 2 ^ 53 = h.room (k + f) (omega (arith, ints, g, e)) in
              omega (arith, ap (λ (i : ℕ). i * 2 ^ (k + f)) is, r, grows (nat_abs (power_of x n).significand) m k (k + f) some (omega arith));
        }
    by (negsuc f) e =
        let m : ℕ = nat_abs x.significand in
        let some : 0 < m = omega (arith, odd) in
        let is : nat_abs (power_of x (suc n)).significand ≡ nat_abs (power_of x n).significand * m = abs_mul (power_of x n).significand x.significand in
        let more : nat_abs (power_of x n).significand * 2 ^ 0 ≤ nat_abs (power_of x n).significand * m * 2 ^ 0 = grows (nat_abs (power_of x n).significand) m 0 0 some (omega arith) in
        record {
          bits = omega (arith, is, h.bits, more);
          least = omega (arith, ints, h.least, e);
          room = λ k g. absurd (omega (arith, ints, g, down x n (omega (arith, ints, e))));
        }

odd_before : (x : Exact) (n : ℕ) → nat_abs x.significand % 2 ≡ 1 → IsConstant (power_of x (suc n)) → IsConstant (power_of x n)
odd_before x n odd h = kept_constant (power_of x n) (kept_before x n odd (constant_kept (power_of x (suc n)) (power_odd x (suc n) odd) h))

pub odd_down : (x : Exact) (n k : ℕ) → nat_abs x.significand % 2 ≡ 1 → IsConstant (power_of x (k + n)) → IsConstant (power_of x n)
odd_down x n zero odd h = let e : 0 + n ≡ n = omega arith in subst (λ (i : ℕ). IsConstant (power_of x i)) e h
odd_down x n (suc k) odd h =
    let e : suc k + n ≡ suc (k + n) = omega arith in
    odd_down x n k odd (odd_before x (k + n) odd (subst (λ (i : ℕ). IsConstant (power_of x i)) e h))

zero_power : (x : Exact) (n : ℕ) → x.significand ≡ pos 0 → IsConstant (power_of x (suc n))
zero_power x n z = zero_constant (power_of x (suc n)) (ap (λ (w : ℤ). (power_of x n).significand *ℤ w) z ∙ none (power_of x n).significand)
  where
    none : (w : ℤ) → w *ℤ pos 0 ≡ pos 0
    none (pos a) = let e : a * 0 ≡ 0 = omega arith in ap pos e
    none (negsuc a) = let e : suc a * 0 ≡ 0 = omega arith in ap (λ (k : ℕ). neg_ℤ (pos k)) e

-- a power of a constant that is none has no constant behind it
pub power_down : (d : Dyadic) (i n : ℕ) → i < n → IsConstant (power_of (exact_of d) n) → IsConstant (power_of (exact_of d) (suc i))
power_down d i n l h = by (zero_or d.m)
  where
    by : (d.m ≡ pos 0) ⊎ (d.m ≡ pos 0 → ⊥) → IsConstant (power_of (exact_of d) (suc i))
    by (inl z) = zero_power (exact_of d) i z
    by (inr some) =
        let e : n ≡ (n - suc i) + suc i = omega (arith, l) in
        odd_down (exact_of d) (suc i) (n - suc i) (d.odd some) (subst (λ (k : ℕ). IsConstant (power_of (exact_of d) k)) e h)

-- the powers of the same number are the same
pub power_same : (x y : Exact) (n : ℕ) → IsSame x y → IsSame (power_of x n) (power_of y n)
power_same x y zero h = refl
power_same x y (suc n) h = product_same (power_of x n) (power_of y n) x y (power_same x y n h) h

-- What the code makes of them

pub next_power : (v n b : Exact) (i : ℕ) → IsSame v (power_of b i) → IsSame n (product_of v b) → IsSame n (power_of b (i + 1))
next_power v n b i h k =
    let e : suc i ≡ i + 1 = omega arith in
    let same : IsSame n (power_of b (suc i)) = same_through n (product_of v b) (product_of (power_of b i) b) k (product_same v (power_of b i) b b h refl) in
    subst (λ (m : ℕ). IsSame n (power_of b m)) e same

pub stops : (v b : Dyadic) (i n : ℕ) → i < n → IsSame (exact_of v) (power_of (exact_of b) i) → IsConstant (power_of (exact_of b) n) → IsConstant (product_of (exact_of v) (exact_of b))
stops v b i n l h k =
    let p : Exact = power_of (exact_of b) i in
    let same : IsSame (product_of (exact_of v) (exact_of b)) (product_of p (exact_of b)) = product_same (exact_of v) p (exact_of b) (exact_of b) h refl in
    constant_same (product_of p (exact_of b)) (product_of (exact_of v) (exact_of b)) (same_turned (product_of (exact_of v) (exact_of b)) (product_of p (exact_of b)) same) (power_down b i n l k)

pub none_power : (r : Option Dyadic) (b : Exact) (n : ℕ) (z : ℤ) → z ≡ pos n → (IsSome r ↔ IsConstant (power_of b n)) → IfNone r (NoPowerOf b z)
none_power (Some y) b n z e l = tt
none_power None b n z e l = λ d h.
    let same : IsSame (exact_of d) (power_of b n) = subst (λ (w : ℤ). IsPowerOf b w (exact_of d)) e h in
    not_true (l.1 (constant_same (exact_of d) (power_of b n) same (constant_of d)))
