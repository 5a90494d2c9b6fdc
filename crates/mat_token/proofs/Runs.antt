-- Runs of bytes that pass a test, by indices.
use Rattle.std.proofs.lemmas.Bool.{cases_lt, false≢true}
use Rattle.std.proofs.lemmas.List.{get_or-drop, length-drop, get_or_past}
use Rattle.std.proofs.lemmas.List.Sums.{prefix_len_passes, prefix_len_stops, prefix_len-le-length}
use Rattle.std.specs.List.{prefix_len}
use Rattle.std.proofs.Common.{◌≡◌, ℕ, ◌+◌, ◌-◌, ◌<◌, ◌≤◌, Bool, true, false, List, length, drop, get_or, sym, ◌∙◌, subst, inl, inr, arith}

-- the end of the run from an index on
abbrev pub run_end : (ℕ → Bool) → List ℕ → ℕ → ℕ
run_end p s from = from + prefix_len p (drop from s)

run_at : (p : ℕ → Bool) (s : List ℕ) (from j : ℕ) → j < prefix_len p (drop from s) → p (get_or s (from + j) 0) ≡ true
run_at p s from j h = subst (λ (b : ℕ). p b ≡ true) (get_or-drop from s j 0) (prefix_len_passes p (drop from s) j 0 h)

pub run_all : (p : ℕ → Bool) (s : List ℕ) (from k : ℕ) → from ≤ k → k < run_end p s from → p (get_or s k 0) ≡ true
run_all p s from k h i =
    let e : from + (k - from) ≡ k = omega arith in
    subst (λ (j : ℕ). p (get_or s j 0) ≡ true) e (run_at p s from (k - from) (omega arith))

stops_at : (p : ℕ → Bool) (s : List ℕ) (from : ℕ) → prefix_len p (drop from s) < length (drop from s) → p (get_or s (run_end p s from) 0) ≡ false
stops_at p s from h = subst (λ (b : ℕ). p b ≡ false) (get_or-drop from s _ 0) (prefix_len_stops p (drop from s) 0 h)

pub run_stop : (p : ℕ → Bool) (s : List ℕ) (from : ℕ) → p 0 ≡ false → p (get_or s (run_end p s from) 0) ≡ false
run_stop p s from zero =
    elim (cases_lt (prefix_len p (drop from s)) (length (drop from s))) as (λ _. p (get_or s (run_end p s from) 0) ≡ false) [
      | inl h ↦ stops_at p s from h
      | inr h ↦ subst (λ (b : ℕ). p b ≡ false) (sym (get_or_past s (run_end p s from) 0 (omega (arith, h, length-drop from s)))) zero
    ]

pub run_most : (p : ℕ → Bool) (s : List ℕ) (from m : ℕ) → p 0 ≡ false →
    ((k : ℕ) → from ≤ k → k < m → p (get_or s k 0) ≡ true) → m ≤ run_end p s from
run_most p s from m zero all =
    elim (cases_lt (run_end p s from) m) as (λ _. m ≤ run_end p s from) [
      | inl h ↦ absurd (false≢true (sym (run_stop p s from zero) ∙ all (run_end p s from) (omega arith) h))
      | inr h ↦ h
    ]

pub run_most_within : (p : ℕ → Bool) (s : List ℕ) (from m : ℕ) → m ≤ length s →
    ((k : ℕ) → from ≤ k → k < m → p (get_or s k 0) ≡ true) → m ≤ run_end p s from
run_most_within p s from m within all =
    elim (cases_lt (run_end p s from) m) as (λ _. m ≤ run_end p s from) [
      | inl h ↦ absurd (false≢true (sym (stops_at p s from (omega (arith, length-drop from s))) ∙ all (run_end p s from) (omega arith) h))
      | inr h ↦ h
    ]

pub run_within : (p : ℕ → Bool) (s : List ℕ) (from : ℕ) → from ≤ length s → run_end p s from ≤ length s
run_within p s from h = omega (arith, length-drop from s, prefix_len-le-length p (drop from s))
