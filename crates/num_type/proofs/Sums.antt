-- Sums of exact numbers.
use Rattle.std.proofs.Common.{◌≡◌, ℕ, zero, suc, ◌*◌, ◌^◌, ◌%◌, ◌<◌, ◌≤◌, to_z, of_z, sym, ap, subst, ◌∙◌, arith}
use Rattle.std.specs.Prelude.{ℤ, pos, ◌+ℤ◌, ◌-ℤ◌, ◌*ℤ◌, neg_ℤ, nat_abs}
use Rattle.std.specs.Int.{w32, w64, w128}
use Rattle.std.proofs.lemmas.Int.{ints, clamps}
use Rattle.std.proofs.lemmas.Nat.{mul-le}
use Rattle.std.proofs.Math.Pow.{pow_mono}
use Rattle.num_type.specs.Constants.{Exact, units, common, IsSame, IsConstant, IsKept, sum_of}
use Rattle.num_type.specs.View.{exact_of}
use Rattle.num_type.specs.declared.dyadic.Dyadic.{Dyadic}
use Rattle.num_type.proofs.Constants.{double, abs_times, times_one, units_at, same_at, constant_kept, kept_constant}
use Rattle.num_type.proofs.Raised.{plain, plain_m, plain_e, top_of}
use Rattle.num_type.proofs.Orders.{units_above, units_of_lower, zero_times}

-- the sum at the exponent of the lower number
pub sum_above : (x y : Exact) (n : ℕ) → x.exponent ≡ y.exponent +ℤ pos n → sum_of x y ≡ record { significand = x.significand *ℤ pos (2 ^ n) +ℤ y.significand; exponent = y.exponent }
sum_above x y n e =
    let c : common x y ≡ y.exponent = omega (arith, ints, clamps, e) in
    λ i. record { significand = units_above x y n e i +ℤ units_of_lower x y n e i; exponent = c i }

turned : (a b : ℤ) → a +ℤ b ≡ b +ℤ a
turned a b = omega (arith, ints)

-- the order of the two makes no difference
pub sum_turned : (x y : Exact) → sum_of x y ≡ sum_of y x
sum_turned x y =
    let c : common x y ≡ common y x = omega (arith, ints, clamps) in
    λ i. record {
      significand = (turned (units (common x y) x) (units (common x y) y) ∙ (λ j. units (c j) y +ℤ units (c j) x)) i;
      exponent = c i;
    }

-- a sum with 0

zero_plus : (a b c : ℤ) → a ≡ pos 0 → b ≡ c → (a +ℤ b) ≡ c
zero_plus a b c p q = omega (arith, ints, p, q)

plus_zero : (a b c : ℤ) → b ≡ pos 0 → a ≡ c → (a +ℤ b) ≡ c
plus_zero a b c p q = omega (arith, ints, p, q)

units_zero : (s : ℤ) (x : Exact) → x.significand ≡ pos 0 → units s x ≡ pos 0
unfolding units
units_zero s x e = zero_times x.significand (2 ^ nat_abs (x.exponent -ℤ s)) e

pub zero_sum : (x y : Exact) → x.significand ≡ pos 0 → IsSame y (sum_of x y)
zero_sum x y z =
    let s : ℤ = common x y in
    let b : ℕ = nat_abs (y.exponent -ℤ s) in
    let q : y.exponent ≡ s +ℤ pos b = omega (arith, ints, clamps) in
    same_at s y (sum_of x y) b 0 q (omega (arith, ints))
    (sym (zero_plus (units s x) (units s y) (y.significand *ℤ pos (2 ^ b)) (units_zero s x z) (units_at s y b q)) ∙ sym (times_one (units s x +ℤ units s y)))

pub sum_zero : (x y : Exact) → y.significand ≡ pos 0 → IsSame x (sum_of x y)
sum_zero x y z =
    let s : ℤ = common x y in
    let a : ℕ = nat_abs (x.exponent -ℤ s) in
    let p : x.exponent ≡ s +ℤ pos a = omega (arith, ints, clamps) in
    same_at s x (sum_of x y) a 0 p (omega (arith, ints))
    (sym (plus_zero (units s x) (units s y) (x.significand *ℤ pos (2 ^ a)) (units_zero s y z) (units_at s x a p)) ∙ sym (times_one (units s x +ℤ units s y)))

pub constant_of : (d : Dyadic) → IsConstant (exact_of d)
constant_of d = kept_constant (exact_of d) (record { bits = d.bits; least = d.least; room = d.room })

-- A sum of numbers that are far apart

odd_sum : (w m : ℤ) → nat_abs m % 2 ≡ 1 → nat_abs (pos 2 *ℤ w +ℤ m) % 2 ≡ 1
odd_sum w m odd = omega (arith, ints, odd)

large_sum : (w m : ℤ) → 2 ^ 64 ≤ nat_abs w → nat_abs m < 2 ^ 53 → nat_abs (w +ℤ m) < 2 ^ 53 → ⊥
large_sum w m large few small = omega (arith, ints, large, few, small)

size_up : (n p : ℕ) → 0 < n → p ≤ n * p
size_up n p h = omega (arith, mul-le 1 p n p h (omega arith))

-- more than 64 bits apart and odd, they have no constant as their sum
pub far_sum : (high low : ℤ) (n : ℕ) (e : ℤ) → 0 < nat_abs high → nat_abs low % 2 ≡ 1 → nat_abs low < 2 ^ 53 → 64 < n → IsConstant (record { significand = high *ℤ pos (2 ^ n) +ℤ low; exponent = e }) → ⊥
far_sum high low zero e some odd few far k = absurd (omega (arith, far))
far_sum high low (suc n) e some odd few far k =
    let z : ℤ = high *ℤ pos (2 ^ suc n) +ℤ low in
    let twice : z ≡ pos 2 *ℤ (high *ℤ pos (2 ^ n)) +ℤ low = ap (λ (w : ℤ). w +ℤ low) (double high n) in
    let o : nat_abs z % 2 ≡ 1 = ap (λ (w : ℤ). nat_abs w % 2) twice ∙ odd_sum (high *ℤ pos (2 ^ n)) low odd in
    let kept : IsKept (nat_abs z) e = constant_kept (record { significand = z; exponent = e }) o k in
    let wide : 2 ^ 64 ≤ 2 ^ suc n = pow_mono (let l : 64 ≤ suc n = omega (arith, far) in l) in
    let large : 2 ^ 64 ≤ nat_abs (high *ℤ pos (2 ^ suc n)) = omega (arith, wide, abs_times high (2 ^ suc n), size_up (nat_abs high) (2 ^ suc n) some) in
    large_sum (high *ℤ pos (2 ^ suc n)) low large few kept.bits

-- Significands as the machine has them

pub zero_m : (d : Dyadic) → of_z w64 d.m ≡ 0 → d.m ≡ pos 0
zero_m d e = sym (plain_m d) ∙ ap (λ (n : ℕ). to_z w64 n) e

pub neg_m : (d : Dyadic) → to_z w64 (of_z w64 (pos 0 -ℤ to_z w64 (of_z w64 d.m))) ≡ neg_ℤ d.m
neg_m d =
    let e : pos 0 -ℤ to_z w64 (of_z w64 d.m) ≡ neg_ℤ d.m = omega (arith, ints, plain_m d) in
    ap (λ (z : ℤ). to_z w64 (of_z w64 z)) e ∙ plain (neg_ℤ d.m) (omega (arith, ints, d.bits)) (omega (arith, ints, d.bits))

pub abs_neg : (z : ℤ) → nat_abs (neg_ℤ z) ≡ nat_abs z
abs_neg z = omega (arith, ints)

-- the exponents of two numbers so far apart
gap_is : (h l : Dyadic) (n : ℕ) → to_z w32 (of_z w32 h.e) ≡ to_z w32 (of_z w32 l.e) +ℤ pos n → h.e ≡ l.e +ℤ pos n
gap_is h l n g = sym (plain_e h) ∙ g ∙ ap (λ (z : ℤ). z +ℤ pos n) (plain_e l)

-- the sum, as the machine makes it
pub sum_is : (h l : Dyadic) (n : ℕ) (s : ℤ) → to_z w32 (of_z w32 h.e) ≡ to_z w32 (of_z w32 l.e) +ℤ pos n → to_z w128 (of_z w128 s) ≡ s → s ≡ to_z w64 (of_z w64 h.m) *ℤ pos (2 ^ n) +ℤ to_z w64 (of_z w64 l.m) → record { significand = to_z w128 (of_z w128 s); exponent = to_z w64 (of_z w64 (to_z w32 (of_z w32 l.e))) } ≡ sum_of (exact_of h) (exact_of l)
sum_is h l n s g u q =
    let e : to_z w64 (of_z w64 (to_z w32 (of_z w32 l.e))) ≡ l.e =
    ap (λ (z : ℤ). to_z w64 (of_z w64 z)) (plain_e l) ∙ plain l.e (omega (arith, ints, l.least)) (omega (arith, ints, top_of l)) in
    let m : to_z w128 (of_z w128 s) ≡ h.m *ℤ pos (2 ^ n) +ℤ l.m = u ∙ q ∙ (λ i. plain_m h i *ℤ pos (2 ^ n) +ℤ plain_m l i) in
    (λ i. record { significand = m i; exponent = e i }) ∙ sym (sum_above (exact_of h) (exact_of l) n (gap_is h l n g))

-- where they are too far apart it is none
pub no_sum : (h l : Dyadic) (n : ℕ) → to_z w32 (of_z w32 h.e) ≡ to_z w32 (of_z w32 l.e) +ℤ pos n → (h.m ≡ pos 0 → ⊥) → (l.m ≡ pos 0 → ⊥) → 64 < n → IsConstant (sum_of (exact_of h) (exact_of l)) → ⊥
no_sum h l n g some other far k =
    far_sum h.m l.m n l.e (omega (arith, h.odd some)) (l.odd other) l.bits far (subst IsConstant (sum_above (exact_of h) (exact_of l) n (gap_is h l n g)) k)
