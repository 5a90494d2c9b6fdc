-- Items of ranges, and places.
use Rattle.std.proofs.Common.{◌≡◌, ◌↔◌, inl, inr, ℕ, zero, suc, ◌+◌, ◌*◌, ◌/◌, ◌<◌, ◌≤◌, refl, ap, ◌∙◌, arith}
use Rattle.std.specs.Prelude.{ℤ, pos, negsuc, neg_ℤ, ◌+ℤ◌, ◌*ℤ◌, ◌<ℤ◌}
use Rattle.std.proofs.lemmas.Int.{ints}
use Rattle.std.proofs.Math.Nat.{le-div_iff_mul-le, mul_comm}
use Rattle.shape_rules.specs.Places.{IsItem}

pub counts : (gap step k : ℕ) → 0 < step → (k < gap / step + 1) ↔ (k * step ≤ gap)
counts gap step k some =
    let h = le-div_iff_mul-le some in
    (λ l. h.0 (omega (arith, l)), λ l. omega (arith, h.1 l))

times_neg : (s k : ℕ) → neg_ℤ (pos s) *ℤ pos k ≡ neg_ℤ (pos (k * s))
times_neg zero k = omega (arith, ints)
times_neg (suc s) k = ap (λ (n : ℕ). neg_ℤ (pos n)) (mul_comm (suc s) k)

-- a step up
pub items_up : (first step last : ℤ) (gap s k : ℕ) → step ≡ pos 0 +ℤ pos s → last ≡ first +ℤ pos gap → pos 0 <ℤ step → (k * s ≤ gap) ↔ IsItem first step last k
items_up first step last gap s k e f up =
    let is : step *ℤ pos k ≡ pos (k * s) = ap (λ (z : ℤ). z *ℤ pos k) (let h : step ≡ pos s = omega (arith, ints, e) in h) ∙ ap pos (mul_comm s k) in
    (λ l. inl (up, omega (arith, ints, is, f, l)), λ h. by is h)
  where
    by : step *ℤ pos k ≡ pos (k * s) → IsItem first step last k → k * s ≤ gap
    by is (inl h) = omega (arith, ints, is, f, h.1)
    by is (inr h) = absurd (omega (arith, ints, h.0, up))

-- a step down
pub items_down : (first step last : ℤ) (gap s k : ℕ) → pos 0 ≡ step +ℤ pos s → first ≡ last +ℤ pos gap → step <ℤ pos 0 → (k * s ≤ gap) ↔ IsItem first step last k
items_down first step last gap s k e f down =
    let is : step *ℤ pos k ≡ neg_ℤ (pos (k * s)) = ap (λ (z : ℤ). z *ℤ pos k) (let h : step ≡ neg_ℤ (pos s) = omega (arith, ints, e) in h) ∙ times_neg s k in
    (λ l. inr (down, omega (arith, ints, is, f, l)), λ h. by is h)
  where
    by : step *ℤ pos k ≡ neg_ℤ (pos (k * s)) → IsItem first step last k → k * s ≤ gap
    by is (inr h) = omega (arith, ints, is, f, h.1)
    by is (inl h) = absurd (omega (arith, ints, h.0, down))

pub none_up : (first step last : ℤ) (k : ℕ) → pos 0 <ℤ step → last <ℤ first → (k < 0) ↔ IsItem first step last k
none_up first (negsuc s) last k up far = absurd (omega (arith, ints, up))
none_up first (pos s) last k up far = (λ a. absurd (omega (arith, a)), λ i. absurd (by i))
  where
    is : pos s *ℤ pos k ≡ pos (s * k)
    is = refl

    by : IsItem first (pos s) last k → ⊥
    by (inl j) = omega (arith, ints, is, far, j.1)
    by (inr j) = omega (arith, ints, j.0)

pub none_down : (first step last : ℤ) (k : ℕ) → step <ℤ pos 0 → first <ℤ last → (k < 0) ↔ IsItem first step last k
none_down first (pos s) last k down far = absurd (omega (arith, ints, down))
none_down first (negsuc s) last k down far = (λ a. absurd (omega (arith, a)), λ i. absurd (by i))
  where
    is : negsuc s *ℤ pos k ≡ neg_ℤ (pos (suc s * k))
    is = refl

    by : IsItem first (negsuc s) last k → ⊥
    by (inl j) = omega (arith, ints, j.0)
    by (inr j) = omega (arith, ints, is, far, j.1)

pub no_step : (first step last : ℤ) (k : ℕ) → step ≡ pos 0 → (k < 0) ↔ IsItem first step last k
no_step first step last k none = (λ a. absurd (omega (arith, a)), λ i. absurd (by i))
  where
    by : IsItem first step last k → ⊥
    by (inl j) = omega (arith, ints, none, j.0)
    by (inr j) = omega (arith, ints, none, j.0)
