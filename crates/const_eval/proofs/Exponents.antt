-- Constants that are whole numbers, and numbers that are doubled.
use Rattle.std.proofs.Common.{◌≡◌, ℕ, zero, suc, ◌+◌, ◌*◌, ◌^◌, ◌%◌, ◌<◌, ◌≤◌, ◌⊎◌, ◌↔◌, inl, inr, ⊎_elim, Bool, false, refl, sym, ap, subst, ◌∙◌, arith}
use Rattle.std.specs.Prelude.{ℤ, pos, negsuc, ◌*ℤ◌, ◌<ℤ◌, nat_abs}
use Rattle.std.proofs.lemmas.Int.{ints, clamps}
use Rattle.std.proofs.lemmas.Nat.{pow_pos, mul-le}
use Rattle.num_type.specs.Constants.{Exact, IsSame}
use Rattle.std.specs.Prelude.{IsTrue, Option, Some, None, IfSome, IfNone}
use Rattle.num_type.specs.Precision.{whole}
use Rattle.num_type.specs.View.{exact_of}
use Rattle.num_type.specs.declared.dyadic.Dyadic.{Dyadic}
use Rattle.const_eval.specs.Powers.{IsExponent}
use Rattle.num_type.proofs.Constants.{same_at, same_from, times_one, parted, under, abs_times, not_true}

-- what is doubled once before
pub once_before : (z y : ℤ) (k n : ℕ) → y ≡ z *ℤ pos 2 → n ≡ suc k → y *ℤ pos (2 ^ k) ≡ z *ℤ pos (2 ^ n)
once_before z y k n e f =
    let one : (z *ℤ pos (2 ^ 1)) *ℤ pos (2 ^ k) ≡ z *ℤ pos (2 ^ (1 + k)) = sym (parted z 1 k) in
    let s : 1 + k ≡ n = omega (arith, f) in
    ap (λ (w : ℤ). w *ℤ pos (2 ^ k)) e ∙ one ∙ ap (λ (i : ℕ). z *ℤ pos (2 ^ i)) s

-- doubling keeps a number beyond 400
pub beyond_most : (z : ℤ) (n : ℕ) → 400 < nat_abs z → 400 < nat_abs (z *ℤ pos (2 ^ n))
beyond_most z n h =
    let some : 0 < 2 ^ n = pow_pos n in
    let m : nat_abs z * 1 ≤ nat_abs z * 2 ^ n = mul-le (nat_abs z) 1 (nat_abs z) (2 ^ n) (omega arith) (omega (arith, some)) in
    omega (arith, abs_times z (2 ^ n), m, h)

pub whole_at : (x : Exact) (e : ℕ) (n : ℤ) → x.exponent ≡ pos e → n ≡ x.significand *ℤ pos (2 ^ e) → IsSame x (whole n)
whole_at x e n p h = same_at (pos 0) x (whole n) e 0 (omega (arith, ints, p)) (omega (arith, ints)) (sym h ∙ sym (times_one n))

pub from_whole : (x : Exact) (e : ℕ) (n : ℤ) → x.exponent ≡ pos e → IsSame x (whole n) → n ≡ x.significand *ℤ pos (2 ^ e)
from_whole x e n p h = sym (same_from (pos 0) x (whole n) e 0 (omega (arith, ints, p)) (omega (arith, ints)) h ∙ times_one n)

-- an odd number of halves is no whole number
pub not_whole : (x : Exact) (b : ℕ) (n : ℤ) → nat_abs x.significand % 2 ≡ 1 → x.exponent ≡ negsuc b → IsSame x (whole n) → ⊥
not_whole x b n odd p h =
    let r = under x.significand n 0 (suc b) odd (same_from (negsuc b) x (whole n) 0 (suc b) (omega (arith, ints, p)) (omega (arith, ints)) h) in
    omega (arith, r.1)

-- What the code makes of a constant

pub none_below : (d : Dyadic) → d.e <ℤ pos 0 → (n : ℤ) → IsExponent (exact_of d) n → ⊥
none_below d low n is = by d.e refl low
  where
    odd : (b : ℕ) → d.e ≡ negsuc b → nat_abs d.m % 2 ≡ 1
    odd b e = d.odd (λ z. let k : negsuc b ≡ pos 0 = sym e ∙ d.zero_form z in omega (arith, ints, k))

    by : (e : ℤ) → d.e ≡ e → e <ℤ pos 0 → ⊥
    by (pos k) p l = omega (arith, ints, l)
    by (negsuc b) p l = not_whole (exact_of d) b n (odd b p) p is.same

pub some_exponent : (r : Option ℤ) (d : Dyadic) (m : ℤ) (k : ℕ) → m ≡ d.m → d.e ≡ pos k → IfSome r (λ n. n ≡ m *ℤ pos (2 ^ k)) → IfSome r (λ n. nat_abs n ≤ 400) → IfSome r (λ n. IsExponent (exact_of d) n)
some_exponent None d m k f e v b = tt
some_exponent (Some n) d m k f e v b = record {
  least = omega (arith, ints, clamps, b);
  most = omega (arith, ints, clamps, b);
  same = whole_at (exact_of d) k n e (v ∙ ap (λ (z : ℤ). z *ℤ pos (2 ^ k)) f);
}

pub none_exponent : (r : Option ℤ) (d : Dyadic) (m : ℤ) (k : ℕ) → m ≡ d.m → d.e ≡ pos k → IfNone r (400 < nat_abs (m *ℤ pos (2 ^ k))) → IfNone r ((n : ℤ) → IsExponent (exact_of d) n → ⊥)
none_exponent (Some n) d m k f e h = tt
none_exponent None d m k f e h = λ n is. omega (arith, ints, clamps, is.least, is.most, h, from_whole (exact_of d) k n e is.same, ap (λ (z : ℤ). z *ℤ pos (2 ^ k)) f)

-- The code's recursion

above : (n : ℕ) → (n ≤ 400 → ⊥) → 400 < n
above n h = by (either n 400)
  where
    either : (a b : ℕ) → (a ≤ b) ⊎ (b < a)
    either zero b = inl (omega arith)
    either (suc a) zero = inr (omega arith)
    either (suc a) (suc b) = ⊎_elim (λ (l : a ≤ b). inl (omega (arith, l))) (λ (l : b < a). inr (omega (arith, l))) (either a b)

    by : (n ≤ 400) ⊎ (400 < n) → 400 < n
    by = ⊎_elim (λ (l : n ≤ 400). absurd (h l)) (λ (l : 400 < n). l)

pub not_within : (b : Bool) (z y : ℤ) (n : ℕ) → y ≡ z → b ≡ false → (IsTrue b ↔ (nat_abs y ≤ 400)) → 400 < nat_abs (z *ℤ pos (2 ^ n))
not_within b z y n f e h = beyond_most z n (above (nat_abs z) (λ l. not_true (subst (λ (x : Bool). IsTrue x) e (h.1 (omega (arith, l, ap nat_abs f))))))

pub some_once : (r : Option ℤ) (z x y : ℤ) (k n : ℕ) → x ≡ z → y ≡ x *ℤ pos 2 → n ≡ suc k → IfSome r (λ v. v ≡ y *ℤ pos (2 ^ k)) → IfSome r (λ v. v ≡ z *ℤ pos (2 ^ n))
some_once None z x y k n g e f h = tt
some_once (Some v) z x y k n g e f h = h ∙ once_before z y k n (e ∙ ap (λ (w : ℤ). w *ℤ pos 2) g) f

pub none_once : (r : Option ℤ) (z x y : ℤ) (k n : ℕ) → x ≡ z → y ≡ x *ℤ pos 2 → n ≡ suc k → IfNone r (400 < nat_abs (y *ℤ pos (2 ^ k))) → IfNone r (400 < nat_abs (z *ℤ pos (2 ^ n)))
none_once (Some v) z x y k n g e f h = tt
none_once None z x y k n g e f h = omega (arith, h, ap nat_abs (once_before z y k n (e ∙ ap (λ (w : ℤ). w *ℤ pos 2) g) f))
