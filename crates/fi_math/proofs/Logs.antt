-- The logarithm is the least k with n ≤ 2 ^ k.
use Rattle.std.proofs.Common.{ℕ, zero, suc, ◌+◌, ◌*◌, ◌/◌, ◌^◌, ◌<◌, ◌≤◌, ◌≡◌, refl, Bool, true, false, inl, inr, arith}
use Rattle.std.specs.Prelude.{nat_lt, if◌then◌else◌}
use Rattle.std.proofs.lemmas.Bool.{ltb-true, ltb-false, le-ltb, cases_lt}
use Rattle.std.proofs.Math.Pow.{pow_mono}
use Rattle.std.proofs.Math.Nat.{pow-suc}
use Rattle.fi_math.specs.Logs.{halvings, log2_up}

pow_up : (i j : ℕ) → i ≤ j → 2 ^ i ≤ 2 ^ j
pow_up i j h = pow_mono h

up_at : (f n : ℕ) (b : Bool) → nat_lt 1 n ≡ b → (n + 1) / 2 ≤ 2 ^ halvings f ((n + 1) / 2) → n ≤ 2 ^ (if b then suc (halvings f ((n + 1) / 2)) else 0)
up_at f n true e i = let l = ltb-true 1 n e in omega (arith, pow-suc 2 (halvings f ((n + 1) / 2)))
up_at f n false e i = let l = ltb-false 1 n e in omega arith

none_at : (f n : ℕ) → n ≤ 1 → n ≤ 2 ^ (if nat_lt 1 n then suc (halvings f ((n + 1) / 2)) else 0)
none_at f n h = rw (le-ltb 1 n h) (omega arith)

pub halvings_up : (f n : ℕ) → n ≤ suc f → n ≤ 2 ^ halvings f n
unfolding halvings
halvings_up zero n h = omega arith
halvings_up (suc f) n h = elim (cases_lt 1 n) [
  | inl k ↦ up_at f n (nat_lt 1 n) refl (halvings_up f ((n + 1) / 2) (omega arith))
  | inr k ↦ none_at f n k
]

least_at : (f n k : ℕ) (b : Bool) → nat_lt 1 n ≡ b → n ≤ 2 ^ k → ((j : ℕ) → (n + 1) / 2 ≤ 2 ^ j → halvings f ((n + 1) / 2) ≤ j) → (if b then suc (halvings f ((n + 1) / 2)) else 0) ≤ k
least_at f n zero true e h i = let l = ltb-true 1 n e in absurd (omega arith)
least_at f n (suc k) true e h i =
    let l = ltb-true 1 n e in
    let j = i k (omega (arith, pow-suc 2 k)) in
    omega arith
least_at f n k false e h i = omega arith

pub halvings_least : (f n k : ℕ) → n ≤ 2 ^ k → halvings f n ≤ k
unfolding halvings
halvings_least zero n k h = omega arith
halvings_least (suc f) n k h = least_at f n k (nat_lt 1 n) refl h (λ j. halvings_least f ((n + 1) / 2) j)

pub log2_holds : (n : ℕ) → n ≤ 2 ^ log2_up n
log2_holds n = halvings_up n n (omega arith)

pub log2_least : (n k : ℕ) → n ≤ 2 ^ k → log2_up n ≤ k
log2_least n k h = halvings_least n n k h

pub log2_small : (n : ℕ) → n ≤ 1 → 0 ≡ log2_up n
log2_small n h = let l = log2_least n 0 (omega arith) in omega arith

-- k is the logarithm where n stands between the powers of 2
pub log2_is : (n k : ℕ) → n ≤ 2 ^ k → 2 ^ k < 2 * n → k ≡ log2_up n
log2_is n k h l =
    let a = log2_least n k h in
    let b = log2_holds n in
    elim (cases_lt (log2_up n) k) [
      | inl g ↦ absurd (let p : 2 ^ suc (log2_up n) ≤ 2 ^ k = pow_up (suc (log2_up n)) k (omega arith) in omega (arith, pow-suc 2 (log2_up n)))
      | inr g ↦ omega arith
    ]
