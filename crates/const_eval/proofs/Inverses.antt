-- Inverses of exact numbers.
use Rattle.std.proofs.Common.{◌≡◌, ◌⊎◌, inl, inr, ◌↔◌, ℕ, zero, suc, ◌+◌, ◌*◌, ◌^◌, ◌%◌, ◌<◌, refl, sym, ap, subst, ◌∙◌, arith}
use Rattle.std.specs.Prelude.{Option, Some, None, IsSome, IfSome, IfNone, ℤ, pos, negsuc, ◌+ℤ◌, ◌-ℤ◌, ◌*ℤ◌, ◌<ℤ◌, neg_ℤ, nat_abs}
use Rattle.std.proofs.lemmas.Int.{ints, clamps}
use Rattle.std.proofs.lemmas.Nat.{mul-le, pow_pos}
use Rattle.std.proofs.Math.IntN.{*ℤ_comm}
use Rattle.num_type.specs.Constants.{Exact, IsSame, IsConstant, IsReduced, product_of, common}
use Rattle.num_type.specs.Precision.{whole}
use Rattle.num_type.specs.View.{exact_of}
use Rattle.num_type.specs.declared.dyadic.Dyadic.{Dyadic}
use Rattle.num_type.proofs.Constants.{same_at, same_from, same_through, same_turned, constant_same, zero_or, abs_times, not_true}
use Rattle.num_type.proofs.Sums.{constant_of}
use Rattle.const_eval.specs.Powers.{power_of, IsPowerOf, NoPowerOf, IsUnit, One, MinusOne, turned}
use Rattle.const_eval.proofs.Alike.{product_same, minus_times}
use Rattle.const_eval.proofs.Powers.{power_same, odd_down, abs_mul}
use Rattle.const_eval.proofs.Fives.{odd_divides}

pub unit_times : (z w : ℤ) → IsUnit z → IsUnit w → IsUnit (z *ℤ w)
unit_times z w (One e) (One f) = One (λ i. e i *ℤ f i)
unit_times z w (One e) (MinusOne f) = MinusOne (λ i. e i *ℤ f i)
unit_times z w (MinusOne e) (One f) = MinusOne (λ i. e i *ℤ f i)
unit_times z w (MinusOne e) (MinusOne f) = One (λ i. e i *ℤ f i)

unit_square : (z : ℤ) → IsUnit z → z *ℤ z ≡ pos 1
unit_square z (One e) = λ i. e i *ℤ e i
unit_square z (MinusOne e) = λ i. e i *ℤ e i

turned_significand : (x : Exact) (n : ℕ) → (power_of (turned x) n).significand ≡ (power_of x n).significand
turned_significand x zero = refl
turned_significand x (suc n) = ap (λ (z : ℤ). z *ℤ x.significand) (turned_significand x n)

turned_exponent : (x : Exact) (n : ℕ) → (power_of (turned x) n).exponent +ℤ (power_of x n).exponent ≡ pos 0
turned_exponent x zero = refl
turned_exponent x (suc n) = omega (arith, ints, turned_exponent x n)

pub unit_power : (x : Exact) (n : ℕ) → IsUnit x.significand → IsUnit (power_of x n).significand
unit_power x zero u = One refl
unit_power x (suc n) u = unit_times (power_of x n).significand x.significand (unit_power x n u) u

one_same : (x : Exact) → x.significand ≡ pos 1 → x.exponent ≡ pos 0 → IsSame x (whole (pos 1))
one_same x p q = same_at (pos 0) x (whole (pos 1)) 0 0 (omega (arith, ints, q)) (omega (arith, ints)) (ap (λ (z : ℤ). z *ℤ pos (2 ^ 0)) p)

-- Powers of a unit times a power of 2

pub turned_product : (x : Exact) (n : ℕ) → IsUnit x.significand → IsSame (product_of (power_of (turned x) n) (power_of x n)) (whole (pos 1))
turned_product x n u =
    one_same (product_of (power_of (turned x) n) (power_of x n))
    (ap (λ (z : ℤ). z *ℤ (power_of x n).significand) (turned_significand x n) ∙ unit_square (power_of x n).significand (unit_power x n u))
    (turned_exponent x n)

-- r is the inverse of a unit times a power of 2 exactly where it is the unit times the opposite power
pub unit_inverse : (r y : Exact) → IsUnit y.significand → IsSame (product_of r y) (whole (pos 1)) → IsSame r (turned y)
unit_inverse r y u h =
    let p : Exact = product_of r y in
    let s : ℤ = common p (whole (pos 1)) in
    let a : ℕ = nat_abs (p.exponent -ℤ s) in
    let b : ℕ = nat_abs (pos 0 -ℤ s) in
    let e : p.exponent ≡ s +ℤ pos a = omega (arith, ints, clamps) in
    let f : pos 0 ≡ s +ℤ pos b = omega (arith, ints, clamps) in
    let k : (r.significand *ℤ y.significand) *ℤ pos (2 ^ a) ≡ pos 1 *ℤ pos (2 ^ b) = same_from s p (whole (pos 1)) a b e f h in
    same_at (s -ℤ y.exponent) r (turned y) a b (omega (arith, ints, e)) (omega (arith, ints, f))
    (sides r.significand y.significand (2 ^ a) (2 ^ b) u k)
  where
    single : (m : ℤ) → m *ℤ pos 1 ≡ m
    single m = omega (arith, ints)

    by_one : (m u : ℤ) → u ≡ pos 1 → m *ℤ u ≡ m
    by_one m u e = ap (λ (z : ℤ). m *ℤ z) e ∙ single m

    minus : (m : ℤ) → negsuc 0 *ℤ m ≡ neg_ℤ m
    minus m = omega (arith, ints)

    by_minus : (m u : ℤ) → u ≡ negsuc 0 → m *ℤ u ≡ neg_ℤ m
    by_minus m u e = ap (λ (z : ℤ). m *ℤ z) e ∙ *ℤ_comm m (negsuc 0) ∙ minus m

    minus_out : (m : ℤ) (p : ℕ) → m *ℤ pos p ≡ neg_ℤ (neg_ℤ m *ℤ pos p)
    minus_out m p = omega (arith, ints, minus_times m p)

    minus_one : (q : ℕ) → neg_ℤ (pos 1 *ℤ pos q) ≡ negsuc 0 *ℤ pos q
    minus_one q = omega (arith, ints)

    sides : (m u : ℤ) (p q : ℕ) → IsUnit u → (m *ℤ u) *ℤ pos p ≡ pos 1 *ℤ pos q → m *ℤ pos p ≡ u *ℤ pos q
    sides m u p q (One e) k = ap (λ (z : ℤ). z *ℤ pos p) (sym (by_one m u e)) ∙ k ∙ ap (λ (z : ℤ). z *ℤ pos q) (sym e)
    sides m u p q (MinusOne e) k =
        let l : neg_ℤ m *ℤ pos p ≡ pos 1 *ℤ pos q = ap (λ (z : ℤ). z *ℤ pos p) (sym (by_minus m u e)) ∙ k in
        minus_out m p ∙ ap neg_ℤ l ∙ minus_one q ∙ ap (λ (z : ℤ). z *ℤ pos q) (sym e)

-- Negative powers

same_parts : (x y : Exact) → x.significand ≡ y.significand → x.exponent ≡ y.exponent → IsSame x y
same_parts x y p q = same_at x.exponent x y 0 0 (omega (arith, ints)) (omega (arith, ints, q)) (ap (λ (z : ℤ). z *ℤ pos (2 ^ 0)) p)

turned_power : (x : Exact) (n : ℕ) → IsSame (turned (power_of x n)) (power_of (turned x) n)
turned_power x n =
    let e : neg_ℤ (power_of x n).exponent ≡ (power_of (turned x) n).exponent = omega (arith, ints, turned_exponent x n) in
    same_parts (turned (power_of x n)) (power_of (turned x) n) (sym (turned_significand x n)) e

pub negative_power : (x i d : Exact) (n : ℕ) → IsUnit x.significand → IsSame i (turned x) → IsSame d (power_of i (suc n)) → IsPowerOf x (negsuc n) d
negative_power x i d n u h k =
    let y : Exact = power_of x (suc n) in
    let t : Exact = power_of (turned x) (suc n) in
    let is : IsSame d t = same_through d (power_of i (suc n)) t k (power_same i (turned x) (suc n) h) in
    same_through (product_of d y) (product_of t y) (whole (pos 1)) (product_same d t y y is refl) (turned_product x (suc n) u)

power_is_turned : (x d : Exact) (n : ℕ) → IsUnit x.significand → IsPowerOf x (negsuc n) d → IsSame d (power_of (turned x) (suc n))
power_is_turned x d n u h =
    let y : Exact = power_of x (suc n) in
    same_through d (turned y) (power_of (turned x) (suc n)) (unit_inverse d y (unit_power x (suc n) u) h) (turned_power x (suc n))

-- a power of the inverse that is no constant
pub no_negative_power : (x i : Exact) (n : ℕ) → IsUnit x.significand → IsSame i (turned x) → (IsConstant (power_of i (suc n)) → ⊥) → NoPowerOf x (negsuc n)
no_negative_power x i n u h none d k =
    let t : Exact = power_of (turned x) (suc n) in
    let p : Exact = power_of i (suc n) in
    let is : IsSame (exact_of d) p = same_through (exact_of d) t p (power_is_turned x (exact_of d) n u k) (same_turned p t (power_same i (turned x) (suc n) h)) in
    none (constant_same (exact_of d) p is (constant_of d))

unit_odd : (z : ℤ) → IsUnit z → nat_abs z % 2 ≡ 1
unit_odd z (One e) = ap (λ (w : ℤ). nat_abs w % 2) e
unit_odd z (MinusOne e) = ap (λ (w : ℤ). nat_abs w % 2) e

first_power : (x : Exact) → IsSame (power_of x 1) x
first_power x = same_parts (power_of x 1) x (omega (arith, ints)) (omega (arith, ints))

-- an inverse that is no constant
pub no_constant_inverse : (x : Exact) (n : ℕ) → IsUnit x.significand → (IsConstant (turned x) → ⊥) → NoPowerOf x (negsuc n)
no_constant_inverse x n u none d k =
    let t : Exact = power_of (turned x) (suc n) in
    let c : IsConstant t = constant_same (exact_of d) t (power_is_turned x (exact_of d) n u k) (constant_of d) in
    let e : suc n ≡ n + 1 = omega arith in
    let one : IsConstant (power_of (turned x) 1) = odd_down (turned x) 1 n (unit_odd x.significand u) (subst (λ (m : ℕ). IsConstant (power_of (turned x) m)) e c) in
    none (constant_same (power_of (turned x) 1) (turned x) (first_power (turned x)) one)

-- a number that is neither has none

pub unit_from_size : (z : ℤ) → nat_abs z ≡ 1 → IsUnit z
unit_from_size (pos a) e = One (ap pos e)
unit_from_size (negsuc a) e = MinusOne (ap negsuc (let k : a ≡ 0 = omega (arith, e) in k))

size_one : (i n : ℕ) → 0 < n → 1 ≡ i * n → n ≡ 1
size_one zero n some e = absurd (let z : 0 * n ≡ 0 = omega arith in omega (arith, e, z))
size_one (suc i) n some e = omega (arith, e, mul-le 1 n (suc i) n (omega arith) (omega arith), some)

pub no_inverse : (x d : Exact) (n : ℕ) → IsReduced x → (nat_abs x.significand ≡ 1 → ⊥) → IsPowerOf x (negsuc n) d → ⊥
no_inverse x d n form none k =
    let q : ℤ = (power_of x n).significand in
    let p : Exact = product_of d (power_of x (suc n)) in
    let s : ℤ = common p (whole (pos 1)) in
    let a : ℕ = nat_abs (p.exponent -ℤ s) in
    let b : ℕ = nat_abs (pos 0 -ℤ s) in
    let e : p.exponent ≡ s +ℤ pos a = omega (arith, ints, clamps) in
    let f : pos 0 ≡ s +ℤ pos b = omega (arith, ints, clamps) in
    let h : p.significand *ℤ pos (2 ^ a) ≡ pos 1 *ℤ pos (2 ^ b) = same_from s p (whole (pos 1)) a b e f k in
    let size : nat_abs d.significand * (nat_abs q * nat_abs x.significand) * 2 ^ a ≡ 1 * 2 ^ b =
    ap (λ (i : ℕ). i * 2 ^ a) (sym (abs_mul d.significand (q *ℤ x.significand) ∙ ap (λ (i : ℕ). nat_abs d.significand * i) (abs_mul q x.significand)))
    ∙ sym (abs_times p.significand (2 ^ a))
    ∙ ap nat_abs h in
    by q a b size (zero_or x.significand)
  where
    nought : (d q m t : ℕ) → m ≡ 0 → d * (q * m) * t ≡ 0
    nought d q m t e = ap (λ (i : ℕ). d * (q * i) * t) e ∙ (let k : d * (q * 0) * t ≡ 0 = omega arith in k)

    moved : (d q m t : ℕ) → d * (q * m) * t ≡ d * q * t * m
    moved d q m t = omega arith

    by : (q : ℤ) (a b : ℕ) → nat_abs d.significand * (nat_abs q * nat_abs x.significand) * 2 ^ a ≡ 1 * 2 ^ b → (x.significand ≡ pos 0) ⊎ (x.significand ≡ pos 0 → ⊥) → ⊥
    by q a b size (inl z) = omega (arith, size, pow_pos b, nought (nat_abs d.significand) (nat_abs q) (nat_abs x.significand) (2 ^ a) (ap nat_abs z))
    by q a b size (inr some) =
        let odd : nat_abs x.significand % 2 ≡ 1 = form.odd some in
        let r = odd_divides (nat_abs x.significand) 1 b (nat_abs d.significand * nat_abs q * 2 ^ a) odd (sym size ∙ moved (nat_abs d.significand) (nat_abs q) (nat_abs x.significand) (2 ^ a)) in
        none (size_one r.0 (nat_abs x.significand) (omega (arith, odd)) r.1)

pub no_dyadic_inverse : (x : Dyadic) (n : ℕ) → (IsUnit x.m → ⊥) → NoPowerOf (exact_of x) (negsuc n)
no_dyadic_inverse x n none d k =
    no_inverse (exact_of x) (exact_of d) n (record { zero_form = x.zero_form; odd = x.odd }) (λ e. none (unit_from_size x.m e)) k

-- What the code makes of them

pub turned_same : (r : Option Dyadic) (x : Exact) (m e : ℤ) → m ≡ x.significand → e ≡ neg_ℤ x.exponent → IfSome r (λ d. IsSame (exact_of d) (record { significand = m; exponent = e })) → IfSome r (λ d. IsSame (exact_of d) (turned x))
turned_same None x m e p q h = tt
turned_same (Some d) x m e p q h =
    let same : record { significand = m; exponent = e } ≡ turned x = λ i. record { significand = p i; exponent = q i } in
    subst (λ (y : Exact). IsSame (exact_of d) y) same h

unit_size : (z : ℤ) → IsUnit z → nat_abs z ≡ 1
unit_size z (One e) = ap nat_abs e
unit_size z (MinusOne e) = ap nat_abs e

unit_or : (z : ℤ) → IsUnit z ⊎ (IsUnit z → ⊥)
unit_or (pos zero) = inr (λ u. omega (arith, unit_size (pos 0) u))
unit_or (pos (suc zero)) = inl (One refl)
unit_or (pos (suc (suc n))) = inr (λ u. omega (arith, unit_size (pos (suc (suc n))) u))
unit_or (negsuc zero) = inl (MinusOne refl)
unit_or (negsuc (suc n)) = inr (λ u. omega (arith, unit_size (negsuc (suc n)) u))

pub none_inverse : (x : Dyadic) (z : ℤ) → z <ℤ pos 0 → (IsUnit x.m → IsConstant (turned (exact_of x)) → ⊥) → NoPowerOf (exact_of x) z
none_inverse x (pos n) below none = absurd (omega (arith, ints, below))
none_inverse x (negsuc n) below none = by (unit_or x.m)
  where
    by : IsUnit x.m ⊎ (IsUnit x.m → ⊥) → NoPowerOf (exact_of x) (negsuc n)
    by (inl u) = no_constant_inverse (exact_of x) n u (none u)
    by (inr not_one) = no_dyadic_inverse x n not_one

pub some_negative : (r : Option Dyadic) (x : Exact) (i : Dyadic) (n : ℕ) (z : ℤ) → z ≡ neg_ℤ (pos n) → z <ℤ pos 0 → IsUnit x.significand → IsSame (exact_of i) (turned x) → IfSome r (λ d. IsSame (exact_of d) (power_of (exact_of i) n)) → IfSome r (λ d. IsPowerOf x z (exact_of d))
some_negative None x i n z e below u h k = tt
some_negative (Some d) x i zero z e below u h k = absurd (omega (arith, ints, e, below))
some_negative (Some d) x i (suc n) z e below u h k = subst (λ (w : ℤ). IsPowerOf x w (exact_of d)) (sym e) (negative_power x (exact_of i) (exact_of d) n u h k)

pub none_negative : (r : Option Dyadic) (x : Exact) (i : Dyadic) (n : ℕ) (z : ℤ) → z ≡ neg_ℤ (pos n) → z <ℤ pos 0 → IsUnit x.significand → IsSame (exact_of i) (turned x) → (IsSome r ↔ IsConstant (power_of (exact_of i) n)) → IfNone r (NoPowerOf x z)
none_negative (Some y) x i n z e below u h l = tt
none_negative None x i zero z e below u h l = absurd (omega (arith, ints, e, below))
none_negative None x i (suc n) z e below u h l = λ d k.
    no_negative_power x (exact_of i) n u h (λ c. not_true (l.1 c)) d (subst (λ (w : ℤ). IsPowerOf x w (exact_of d)) e k)
