-- Numbers without the powers of a base that divide them.
use Rattle.std.proofs.Common.{◌≡◌, ◌≢◌, ◌⊎◌, inl, inr, ℕ, zero, suc, ◌*◌, ◌/◌, ◌^◌, ◌%◌, ◌<◌, ◌≤◌, Bool, true, false, refl, sym, ap, subst, ◌∙◌, arith}
use Rattle.std.specs.Prelude.{◌==◌}
use Rattle.std.proofs.lemmas.Bool.{eqb-true, eqb-false, cases_Bool}
use Rattle.std.proofs.lemmas.Nat.{div-add-mod', mul-le}
use Rattle.std.proofs.Math.Nat.{pow-zero, pow-suc, mul_assoc}
use Rattle.const_rules.specs.Splits.{Split, once_more, split_up_to}

divided : (base most n : ℕ) → (n % base == 0) ≡ true → split_up_to base (suc most) n ≡ once_more (split_up_to base most (n / base))
unfolding split_up_to
divided base most n e = ap (λ (b : Bool). elim b [
  | true ↦ once_more (split_up_to base most (n / base))
  | false ↦ record { part = n; power = 0 }
]) e

undivided : (base most n : ℕ) → (n % base == 0) ≡ false → split_up_to base (suc most) n ≡ record { part = n; power = 0 }
unfolding split_up_to
undivided base most n e = ap (λ (b : Bool). elim b [
  | true ↦ once_more (split_up_to base most (n / base))
  | false ↦ record { part = n; power = 0 }
]) e

unsplit : (base n : ℕ) → split_up_to base zero n ≡ record { part = n; power = 0 }
unfolding split_up_to
unsplit base n = refl

quotient : (base n : ℕ) → (n % base == 0) ≡ true → n / base * base ≡ n
quotient base n e = omega (arith, div-add-mod' n base, eqb-true (n % base) 0 e)

one_more : (p base k : ℕ) → p * base ^ suc k ≡ p * base ^ k * base
one_more p base k = ap (λ (q : ℕ). p * q) (pow-suc base k) ∙ sym (mul_assoc p (base ^ k) base)

alone : (base n : ℕ) → n * base ^ 0 ≡ n
alone base n = let e : base ^ 0 ≡ 1 = pow-zero base in ap (λ (p : ℕ). n * p) e ∙ single n
  where
    single : (n : ℕ) → n * 1 ≡ n
    single n = omega arith

number_step : (base most n : ℕ) → (split_up_to base most (n / base)).part * base ^ (split_up_to base most (n / base)).power ≡ n / base → ((n % base == 0) ≡ true) ⊎ ((n % base == 0) ≡ false) → (split_up_to base (suc most) n).part * base ^ (split_up_to base (suc most) n).power ≡ n
number_step base most n h (inl e) =
    let s : Split = split_up_to base most (n / base) in
    ap (λ (t : Split). t.part * base ^ t.power) (divided base most n e)
    ∙ one_more s.part base s.power
    ∙ ap (λ (m : ℕ). m * base) h
    ∙ quotient base n e
number_step base most n h (inr e) = ap (λ (t : Split). t.part * base ^ t.power) (undivided base most n e) ∙ alone base n

-- the part times the power is the number
pub split_number : (base most n : ℕ) → (split_up_to base most n).part * base ^ (split_up_to base most n).power ≡ n
split_number base zero n = ap (λ (s : Split). s.part * base ^ s.power) (unsplit base n) ∙ alone base n
split_number base (suc most) n = number_step base most n (split_number base most (n / base)) (cases_Bool (n % base == 0))

above : (q base n : ℕ) → q * base ≡ n → 0 < n → 0 < q
above zero base n e some = absurd (let z : 0 * base ≡ 0 = omega arith in omega (arith, e, z, some))
above (suc q) base n e some = omega arith

last_step : (base most n : ℕ) → 2 ≤ base → 0 < n → n ≤ suc most → (0 < n / base → n / base ≤ most → (split_up_to base most (n / base)).part % base ≢ 0) → ((n % base == 0) ≡ true) ⊎ ((n % base == 0) ≡ false) → (split_up_to base (suc most) n).part % base ≢ 0
last_step base most n two some few h (inl e) =
    let q : n / base * base ≡ n = quotient base n e in
    let half : n / base * 2 ≤ n / base * base = mul-le (n / base) 2 (n / base) base (omega arith) two in
    let more : 0 < n / base = above (n / base) base n q some in
    subst (λ (t : Split). t.part % base ≢ 0) (sym (divided base most n e)) (h more (omega (arith, half, q, few, more)))
last_step base most n two some few h (inr e) = subst (λ (t : Split). t.part % base ≢ 0) (sym (undivided base most n e)) (eqb-false (n % base) 0 e)

-- and the base doesn't divide the part
pub split_last : (base most n : ℕ) → 2 ≤ base → 0 < n → n ≤ most → (split_up_to base most n).part % base ≢ 0
split_last base zero n two some few = absurd (omega (arith, some, few))
split_last base (suc most) n two some few = last_step base most n two some few (split_last base most (n / base) two) (cases_Bool (n % base == 0))
