-- Powers of 10 as powers of 5 and of 2.
use Rattle.std.proofs.Common.{◌≡◌, ◌≢◌, ◌↔◌, ℕ, zero, suc, ◌+◌, ◌*◌, ◌/◌, ◌^◌, ◌%◌, ◌<◌, ◌≤◌, refl, sym, ap, subst, ◌∙◌, arith}
use Rattle.std.specs.Prelude.{Option, Some, None, IsSome, IfSome, IfNone, ℤ, pos, negsuc, ◌+ℤ◌, ◌-ℤ◌, ◌*ℤ◌, neg_ℤ, nat_abs}
use Rattle.std.proofs.lemmas.Int.{ints, clamps}
use Rattle.std.proofs.lemmas.Nat.{mul-pow, pow-add}
use Rattle.std.proofs.Math.Nat.{pow-suc, mul_assoc, mul-mod_left}
use Rattle.num_type.specs.Constants.{Exact, IsSame, IsConstant, product_of, common}
use Rattle.num_type.specs.Precision.{whole}
use Rattle.num_type.proofs.Constants.{same_at, same_from, same_through, same_turned, constant_same, abs_times, not_true}
use Rattle.num_type.proofs.Sums.{constant_of}
use Rattle.num_type.specs.View.{exact_of}
use Rattle.num_type.specs.declared.dyadic.Dyadic.{Dyadic}
use Rattle.const_eval.specs.Literals.{IsTenfold}
use Rattle.const_eval.proofs.Products.{times_times, times_turned, times_cancel}

pub ten_is : (k : ℕ) → 10 ^ k ≡ 5 ^ k * 2 ^ k
ten_is k = mul-pow 5 2 k

-- d * 5 ^ k * 2 ^ k
pub five_two : (d k : ℕ) → d * 5 ^ k * 2 ^ k ≡ d * 10 ^ k
five_two d k = mul_assoc d (5 ^ k) (2 ^ k) ∙ ap (λ (p : ℕ). d * p) (sym (ten_is k))

pub raised_same : (d k : ℕ) → IsSame (record { significand = pos (d * 5 ^ k); exponent = pos k }) (whole (pos (d * 10 ^ k)))
raised_same d k =
    let one : d * 10 ^ k * 2 ^ 0 ≡ d * 10 ^ k = omega arith in
    same_at (pos 0) (record { significand = pos (d * 5 ^ k); exponent = pos k }) (whole (pos (d * 10 ^ k))) k 0 (omega (arith, ints)) (omega (arith, ints))
    (ap pos (five_two d k ∙ sym one))

-- Quotients by powers of 10

-- a quotient by 5 ^ k, k bits lower, is the number over 10 ^ k
pub lowered_tenfold : (x : Exact) (c d j : ℕ) → c * 5 ^ suc j ≡ d → IsSame x (record { significand = pos c; exponent = negsuc j }) → IsTenfold d (negsuc j) x
lowered_tenfold x c d j f h =
    let low : Exact = record { significand = pos c; exponent = negsuc j } in
    let s : ℤ = common x low in
    let a : ℕ = nat_abs (x.exponent -ℤ s) in
    let b : ℕ = nat_abs (low.exponent -ℤ s) in
    let p : x.exponent ≡ s +ℤ pos a = omega (arith, ints, clamps) in
    let q : negsuc j ≡ s +ℤ pos b = omega (arith, ints, clamps) in
    let e : x.significand *ℤ pos (2 ^ a) ≡ pos (c * 2 ^ b) = same_from s x low a b p q h in
    let n : c * 2 ^ b * 10 ^ suc j ≡ d * 2 ^ (b + suc j) = ten_out c d b (suc j) f in
    same_at s (product_of x (whole (pos (10 ^ suc j)))) (whole (pos d)) a (b + suc j) (omega (arith, ints, p)) (omega (arith, ints, q))
    (times_turned x.significand (10 ^ suc j) (2 ^ a) ∙ ap (λ (z : ℤ). z *ℤ pos (10 ^ suc j)) e ∙ ap pos n)
  where
    moved : (c t f u : ℕ) → c * t * (f * u) ≡ c * f * (t * u)
    moved c t f u = omega arith

    ten_out : (c d b k : ℕ) → c * 5 ^ k ≡ d → c * 2 ^ b * 10 ^ k ≡ d * 2 ^ (b + k)
    ten_out c d b k f =
        ap (λ (p : ℕ). c * 2 ^ b * p) (ten_is k)
        ∙ moved c (2 ^ b) (5 ^ k) (2 ^ k)
        ∙ ap (λ (n : ℕ). n * (2 ^ b * 2 ^ k)) f
        ∙ ap (λ (p : ℕ). d * p) (sym (pow-add 2 b k))

-- and the other way round
pub tenfold_lowered : (x : Exact) (c d j : ℕ) → c * 5 ^ suc j ≡ d → IsTenfold d (negsuc j) x → IsSame x (record { significand = pos c; exponent = negsuc j })
tenfold_lowered x c d j f h =
    let y : Exact = product_of x (whole (pos (10 ^ suc j))) in
    let s : ℤ = common y (whole (pos d)) in
    let a : ℕ = nat_abs (y.exponent -ℤ s) in
    let b : ℕ = nat_abs (pos 0 -ℤ s) in
    let p : y.exponent ≡ s +ℤ pos a = omega (arith, ints, clamps) in
    let q : pos 0 ≡ s +ℤ pos b = omega (arith, ints, clamps) in
    let e : (x.significand *ℤ pos (10 ^ suc j)) *ℤ pos (2 ^ a) ≡ pos (d * 2 ^ b) = same_from s y (whole (pos d)) a b p q h in
    same_at (s -ℤ pos (suc j)) x (record { significand = pos c; exponent = negsuc j }) (a + suc j) b (omega (arith, ints, p)) (omega (arith, ints, q))
    (times_cancel (x.significand *ℤ pos (2 ^ (a + suc j))) (pos (c * 2 ^ b)) (5 ^ suc j) (five_pos (suc j)) (
    times_times x.significand (2 ^ (a + suc j)) (5 ^ suc j)
    ∙ ap (λ (n : ℕ). x.significand *ℤ pos n) (powers a (suc j))
    ∙ sym (times_times x.significand (10 ^ suc j) (2 ^ a))
    ∙ e
    ∙ ap pos (ap (λ (n : ℕ). n * 2 ^ b) (sym f) ∙ turned c (5 ^ suc j) (2 ^ b))
    ))
  where
    turned3 : (t u f : ℕ) → t * u * f ≡ f * u * t
    turned3 t u f = omega arith

    powers : (a k : ℕ) → 2 ^ (a + k) * 5 ^ k ≡ 10 ^ k * 2 ^ a
    powers a k = ap (λ (p : ℕ). p * 5 ^ k) (pow-add 2 a k) ∙ turned3 (2 ^ a) (2 ^ k) (5 ^ k) ∙ ap (λ (p : ℕ). p * 2 ^ a) (sym (ten_is k))

    turned : (c f t : ℕ) → c * f * t ≡ c * t * f
    turned c f t = omega arith

    five_pos : (k : ℕ) → 0 < 5 ^ k
    five_pos zero = omega arith
    five_pos (suc k) = omega (arith, pow-suc 5 k, five_pos k)

-- Numbers that 5 ^ k doesn't divide

pub five_odd : (k : ℕ) → 5 ^ k % 2 ≡ 1
five_odd zero = refl
five_odd (suc k) = omega (arith, pow-suc 5 k, five_odd k)

-- what divides a number times a power of 2 and is odd divides the number
pub odd_divides : (p n b m : ℕ) → p % 2 ≡ 1 → n * 2 ^ b ≡ m * p → (i : ℕ) × (n ≡ i * p)
odd_divides p n zero m odd h = (m, let one : n * 2 ^ 0 ≡ n = omega arith in omega (arith, h, one))
odd_divides p n (suc b) m odd h =
    let q : ℕ = p / 2 in
    let split : p ≡ 2 * q + 1 = omega (arith, odd) in
    let wide : m * p ≡ 2 * (m * q) + m = ap (λ (x : ℕ). m * x) split ∙ widened m q in
    let twice : n * 2 ^ suc b ≡ 2 * (n * 2 ^ b) = ap (λ (x : ℕ). n * x) (pow-suc 2 b) ∙ halves n (2 ^ b) in
    let even : m ≡ 2 * (m / 2) = omega (arith, wide, twice, h) in
    let less : m * p ≡ 2 * (m / 2 * p) = ap (λ (x : ℕ). x * p) even ∙ mul_assoc 2 (m / 2) p in
    odd_divides p n b (m / 2) odd (omega (arith, twice, less, h))
  where
    widened : (m q : ℕ) → m * (2 * q + 1) ≡ 2 * (m * q) + m
    widened m q = omega arith

    halves : (n t : ℕ) → n * (t * 2) ≡ 2 * (n * t)
    halves n t = omega arith

pub no_tenfold : (x : Exact) (d j : ℕ) → d % 5 ^ suc j ≢ 0 → IsTenfold d (negsuc j) x → ⊥
no_tenfold x d j rest h =
    let y : Exact = product_of x (whole (pos (10 ^ suc j))) in
    let s : ℤ = common y (whole (pos d)) in
    let a : ℕ = nat_abs (y.exponent -ℤ s) in
    let b : ℕ = nat_abs (pos 0 -ℤ s) in
    let p : y.exponent ≡ s +ℤ pos a = omega (arith, ints, clamps) in
    let q : pos 0 ≡ s +ℤ pos b = omega (arith, ints, clamps) in
    let e : (x.significand *ℤ pos (10 ^ suc j)) *ℤ pos (2 ^ a) ≡ pos (d * 2 ^ b) = same_from s y (whole (pos d)) a b p q h in
    let size : d * 2 ^ b ≡ nat_abs x.significand * (10 ^ suc j * 2 ^ a) = sym (sym (abs_times x.significand (10 ^ suc j * 2 ^ a)) ∙ ap nat_abs (sym (times_times x.significand (10 ^ suc j) (2 ^ a)) ∙ e)) in
    let r = odd_divides (5 ^ suc j) d b (nat_abs x.significand * (2 ^ suc j * 2 ^ a)) (five_odd (suc j)) (size ∙ out (nat_abs x.significand) a (suc j)) in
    rest (ap (λ (n : ℕ). n % 5 ^ suc j) r.1 ∙ mul-mod_left r.0 (5 ^ suc j))
  where
    moved : (m f t u : ℕ) → m * (f * t * u) ≡ m * (t * u) * f
    moved m f t u = omega arith

    out : (m a k : ℕ) → m * (10 ^ k * 2 ^ a) ≡ m * (2 ^ k * 2 ^ a) * 5 ^ k
    out m a k = ap (λ (p : ℕ). m * (p * 2 ^ a)) (ten_is k) ∙ moved m (5 ^ k) (2 ^ k) (2 ^ a)

-- What the code makes of them

pub raised_some : (r : Option Dyadic) (d k : ℕ) (m e : ℤ) → m ≡ pos (d * 5 ^ k) → e ≡ pos k → IfSome r (λ x. IsSame (exact_of x) (record { significand = m; exponent = e })) → IfSome r (λ x. IsTenfold d (pos k) (exact_of x))
raised_some None d k m e p q h = tt
raised_some (Some x) d k m e p q h =
    let low : Exact = record { significand = pos (d * 5 ^ k); exponent = pos k } in
    let same : record { significand = m; exponent = e } ≡ low = λ i. record { significand = p i; exponent = q i } in
    same_through (exact_of x) low (whole (pos (d * 10 ^ k))) (subst (λ (y : Exact). IsSame (exact_of x) y) same h) (raised_same d k)

pub raised_none : (r : Option Dyadic) (d k : ℕ) (m e : ℤ) → m ≡ pos (d * 5 ^ k) → e ≡ pos k → (IsSome r ↔ IsConstant (record { significand = m; exponent = e })) → IfNone r ((x : Dyadic) → IsTenfold d (pos k) (exact_of x) → ⊥)
raised_none (Some y) d k m e p q l = tt
raised_none None d k m e p q l = λ x h.
    let low : Exact = record { significand = pos (d * 5 ^ k); exponent = pos k } in
    let top : Exact = whole (pos (d * 10 ^ k)) in
    let same : record { significand = m; exponent = e } ≡ low = λ i. record { significand = p i; exponent = q i } in
    let is : IsSame (exact_of x) low = same_through (exact_of x) top low h (same_turned low top (raised_same d k)) in
    not_true (l.1 (subst IsConstant (sym same) (constant_same (exact_of x) low is (constant_of x))))

pub lowered_some : (r : Option Dyadic) (d c k : ℕ) (m e : ℤ) → 1 ≤ k → c * 5 ^ k ≡ d → m ≡ pos c → e ≡ neg_ℤ (pos k) → IfSome r (λ x. IsSame (exact_of x) (record { significand = m; exponent = e })) → IfSome r (λ x. IsTenfold d (neg_ℤ (pos k)) (exact_of x))
lowered_some None d c k m e some f p q h = tt
lowered_some (Some x) d c zero m e some f p q h = absurd (omega (arith, some))
lowered_some (Some x) d c (suc j) m e some f p q h =
    let same : record { significand = m; exponent = e } ≡ record { significand = pos c; exponent = negsuc j } = λ i. record { significand = p i; exponent = q i } in
    lowered_tenfold (exact_of x) c d j f (subst (λ (y : Exact). IsSame (exact_of x) y) same h)

pub lowered_none : (r : Option Dyadic) (d c k : ℕ) (m e : ℤ) → 1 ≤ k → c * 5 ^ k ≡ d → m ≡ pos c → e ≡ neg_ℤ (pos k) → (IsSome r ↔ IsConstant (record { significand = m; exponent = e })) → IfNone r ((x : Dyadic) → IsTenfold d (neg_ℤ (pos k)) (exact_of x) → ⊥)
lowered_none (Some y) d c k m e some f p q l = tt
lowered_none None d c zero m e some f p q l = absurd (omega (arith, some))
lowered_none None d c (suc j) m e some f p q l = λ x h.
    let low : Exact = record { significand = pos c; exponent = negsuc j } in
    let same : record { significand = m; exponent = e } ≡ low = λ i. record { significand = p i; exponent = q i } in
    not_true (l.1 (subst IsConstant (sym same) (constant_same (exact_of x) low (tenfold_lowered (exact_of x) c d j f h) (constant_of x))))

pub no_lowered : (d k : ℕ) → 1 ≤ k → d % 5 ^ k ≢ 0 → (x : Dyadic) → IsTenfold d (neg_ℤ (pos k)) (exact_of x) → ⊥
no_lowered d zero some rest x h = absurd (omega (arith, some))
no_lowered d (suc j) some rest x h = no_tenfold (exact_of x) d j rest h
