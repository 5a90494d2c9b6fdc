-- Numbers at a common scale, and the one form of a constant.
use Rattle.std.proofs.Common.{◌≡◌, ◌⊎◌, inl, inr, ℕ, zero, suc, ◌+◌, ◌*◌, ◌-◌, ◌/◌, ◌^◌, ◌%◌, ◌<◌, ◌≤◌, Bool, true, false, refl, sym, ap, ◌∙◌, arith}
use Rattle.std.specs.Prelude.{ℤ, pos, negsuc, ◌+ℤ◌, ◌-ℤ◌, ◌*ℤ◌, ◌≤ℤ◌, ◌<ℤ◌, neg_ℤ, nat_abs}
use Rattle.std.specs.Int.{int_min, bit_at}
use Rattle.std.proofs.lemmas.Int.{ints, clamps}
use Rattle.std.proofs.lemmas.Nat.{pow_pos, mul-le}
use Rattle.std.proofs.Math.Nat.{pow-suc, mul_assoc, mul_comm, div-div-eq-div-mul}
use Rattle.std.proofs.Math.Pow.{pow_mono}
use Rattle.num_type.specs.Whole.{signed}
use Rattle.num_type.specs.Constants.{Exact, units, common, IsSame, IsConstant, IsKept, IsReduced}

nat_double : (n a : ℕ) → n * 2 ^ suc a ≡ 2 * (n * 2 ^ a)
nat_double n a = ap (λ (p : ℕ). n * p) (pow-suc 2 a) ∙ sym (mul_assoc n (2 ^ a) 2) ∙ mul_comm (n * 2 ^ a) 2

twice_neg : (a b : ℕ) → b ≡ 2 * a → neg_ℤ (pos b) ≡ pos 2 *ℤ neg_ℤ (pos a)
twice_neg a b e = omega (arith, ints)

-- one bit more doubles
pub double : (z : ℤ) (a : ℕ) → z *ℤ pos (2 ^ suc a) ≡ pos 2 *ℤ (z *ℤ pos (2 ^ a))
double (pos n) a = ap pos (nat_double n a)
double (negsuc n) a = twice_neg (suc n * 2 ^ a) (suc n * 2 ^ suc a) (nat_double (suc n) a)

pub times_one : (z : ℤ) → z *ℤ pos (2 ^ 0) ≡ z
times_one z = omega (arith, ints)

-- bits in two parts
pub parted : (z : ℤ) (a c : ℕ) → z *ℤ pos (2 ^ (a + c)) ≡ (z *ℤ pos (2 ^ a)) *ℤ pos (2 ^ c)
parted z a zero = let e : a + 0 ≡ a = omega arith in ap (λ (i : ℕ). z *ℤ pos (2 ^ i)) e ∙ sym (times_one (z *ℤ pos (2 ^ a)))
parted z a (suc c) =
    let e : a + suc c ≡ suc (a + c) = omega arith in
    ap (λ (i : ℕ). z *ℤ pos (2 ^ i)) e ∙ double z (a + c) ∙ ap (λ (w : ℤ). pos 2 *ℤ w) (parted z a c) ∙ sym (double (z *ℤ pos (2 ^ a)) c)

lifted : (z : ℤ) (a i c : ℕ) → a ≡ i + c → z *ℤ pos (2 ^ a) ≡ (z *ℤ pos (2 ^ i)) *ℤ pos (2 ^ c)
lifted z a i c e = ap (λ (k : ℕ). z *ℤ pos (2 ^ k)) e ∙ parted z i c

pub cancel : (x y : ℤ) (a : ℕ) → x *ℤ pos (2 ^ a) ≡ y *ℤ pos (2 ^ a) → x ≡ y
cancel x y zero e = sym (times_one x) ∙ e ∙ times_one y
cancel x y (suc a) e = cancel x y a (omega (arith, ints, e, double x a, double y a))

-- an odd number with as many bits as another one has no fewer bits behind it
pub under : (x y : ℤ) (a b : ℕ) → nat_abs x % 2 ≡ 1 → x *ℤ pos (2 ^ a) ≡ y *ℤ pos (2 ^ b) → (c : ℕ) × (a ≡ b + c) × (x *ℤ pos (2 ^ c) ≡ y)
under x y a zero odd e = (a, omega arith, e ∙ times_one y)
under x y zero (suc b) odd e = absurd (omega (arith, ints, odd, e, double y b, times_one x))
under x y (suc a) (suc b) odd e =
    let r = under x y a b odd (omega (arith, ints, e, double x a, double y b)) in
    (r.0, omega (arith, r.1), r.2)

pub abs_times : (z : ℤ) (p : ℕ) → nat_abs (z *ℤ pos p) ≡ nat_abs z * p
abs_times (pos n) p = refl
abs_times (negsuc n) p = let e : nat_abs (neg_ℤ (pos (suc n * p))) ≡ suc n * p = omega (arith, ints) in e

-- The same number

pub units_at : (s : ℤ) (x : Exact) (a : ℕ) → x.exponent ≡ s +ℤ pos a → units s x ≡ x.significand *ℤ pos (2 ^ a)
unfolding units
units_at s x a e = let h : nat_abs (x.exponent -ℤ s) ≡ a = omega (arith, ints, e) in ap (λ (i : ℕ). x.significand *ℤ pos (2 ^ i)) h

-- a scale at which both are whole is so far below their common one
below_common : (s : ℤ) (x y : Exact) (a b : ℕ) → x.exponent ≡ s +ℤ pos a → y.exponent ≡ s +ℤ pos b → (c : ℕ) × (i : ℕ) × (j : ℕ) × (a ≡ i + c) × (b ≡ j + c) × (x.exponent ≡ common x y +ℤ pos i) × (y.exponent ≡ common x y +ℤ pos j)
below_common s x y a b p q =
    let c : ℕ = nat_abs (common x y -ℤ s) in
    (c, a - c, b - c, omega (arith, ints, clamps, p, q), omega (arith, ints, clamps, p, q), omega (arith, ints, clamps, p, q), omega (arith, ints, clamps, p, q))

pub same_at : (s : ℤ) (x y : Exact) (a b : ℕ) → x.exponent ≡ s +ℤ pos a → y.exponent ≡ s +ℤ pos b → x.significand *ℤ pos (2 ^ a) ≡ y.significand *ℤ pos (2 ^ b) → IsSame x y
same_at s x y a b p q e =
    let l = below_common s x y a b p q in
    let c : ℕ = l.0 in
    let i : ℕ = l.1 in
    let j : ℕ = l.2 in
    units_at (common x y) x i l.5
    ∙ cancel (x.significand *ℤ pos (2 ^ i)) (y.significand *ℤ pos (2 ^ j)) c (sym (lifted x.significand a i c l.3) ∙ e ∙ lifted y.significand b j c l.4)
    ∙ sym (units_at (common x y) y j l.6)

pub same_from : (s : ℤ) (x y : Exact) (a b : ℕ) → x.exponent ≡ s +ℤ pos a → y.exponent ≡ s +ℤ pos b → IsSame x y → x.significand *ℤ pos (2 ^ a) ≡ y.significand *ℤ pos (2 ^ b)
same_from s x y a b p q h =
    let l = below_common s x y a b p q in
    let c : ℕ = l.0 in
    let i : ℕ = l.1 in
    let j : ℕ = l.2 in
    lifted x.significand a i c l.3
    ∙ ap (λ (z : ℤ). z *ℤ pos (2 ^ c)) (sym (units_at (common x y) x i l.5) ∙ h ∙ units_at (common x y) y j l.6)
    ∙ sym (lifted y.significand b j c l.4)

pub same_through : (x y z : Exact) → IsSame x y → IsSame y z → IsSame x z
same_through x y z h k =
    let s : ℤ = int_min (common x y) z.exponent in
    let a : ℕ = nat_abs (x.exponent -ℤ s) in
    let b : ℕ = nat_abs (y.exponent -ℤ s) in
    let c : ℕ = nat_abs (z.exponent -ℤ s) in
    let p : x.exponent ≡ s +ℤ pos a = omega (arith, ints, clamps) in
    let q : y.exponent ≡ s +ℤ pos b = omega (arith, ints, clamps) in
    let r : z.exponent ≡ s +ℤ pos c = omega (arith, ints, clamps) in
    same_at s x z a c p r (same_from s x y a b p q h ∙ same_from s y z b c q r k)

-- Constants

pub constant_same : (x y : Exact) → IsSame x y → IsConstant x → IsConstant y
constant_same x y h k = record { form = k.form; bits = k.bits; least = k.least; most = k.most; same = same_through k.form x y k.same h }

-- an odd significand of a constant is within the limits
pub constant_kept : (x : Exact) → nat_abs x.significand % 2 ≡ 1 → IsConstant x → IsKept (nat_abs x.significand) x.exponent
constant_kept x odd h =
    let s : ℤ = common h.form x in
    let a : ℕ = nat_abs (x.exponent -ℤ s) in
    let b : ℕ = nat_abs (h.form.exponent -ℤ s) in
    let p : x.exponent ≡ s +ℤ pos a = omega (arith, ints, clamps) in
    let q : h.form.exponent ≡ s +ℤ pos b = omega (arith, ints, clamps) in
    let r = under x.significand h.form.significand a b odd (sym (same_from s h.form x b a q p h.same)) in
    let c : ℕ = r.0 in
    let n : ℕ = nat_abs x.significand in
    let size : n * 2 ^ c ≡ nat_abs h.form.significand = sym (abs_times x.significand (2 ^ c)) ∙ ap nat_abs r.2 in
    record {
      bits = omega (arith, size, h.bits, product_up n 1 (2 ^ c) (pow_pos c));
      least = omega (arith, ints, p, q, r.1, h.least);
      room = λ k e.
          let fewer : k ≤ c = omega (arith, ints, p, q, r.1, h.most, e) in
          let up : 2 ^ k ≤ 2 ^ c = pow_mono fewer in
          omega (arith, size, h.bits, product_up n (2 ^ k) (2 ^ c) up);
    }
  where
    product_up : (n p q : ℕ) → p ≤ q → n * p ≤ n * q
    product_up n p q h = mul-le n p n q (omega arith) h

-- and what is within them is a constant
pub kept_constant : (x : Exact) → IsKept (nat_abs x.significand) x.exponent → IsConstant x
kept_constant x h = by (x.exponent -ℤ pos 400) (omega (arith, ints))
  where
    by : (d : ℤ) → x.exponent ≡ pos 400 +ℤ d → IsConstant x
    by (pos k) e = record {
      form = record { significand = x.significand *ℤ pos (2 ^ k); exponent = pos 400 };
      bits = omega (arith, abs_times x.significand (2 ^ k), h.room k e);
      least = omega (arith, ints);
      most = omega (arith, ints);
      same = same_at (pos 400) (record { significand = x.significand *ℤ pos (2 ^ k); exponent = pos 400 }) x 0 k (omega (arith, ints)) e (times_one (x.significand *ℤ pos (2 ^ k)));
    }
    by (negsuc k) e = record { form = x; bits = h.bits; least = h.least; most = omega (arith, ints, e); same = refl }

pub not_true : (false ≡ true) → ⊥
not_true t = cc

-- above the top an odd size has no room
pub beyond : (size : ℕ) (e : ℤ) → size % 2 ≡ 1 → pos 452 <ℤ e → IsKept size e → ⊥
beyond size e odd h k =
    let n : ℕ = nat_abs (e -ℤ pos 400) in
    let up : 2 ^ 53 ≤ 2 ^ n = pow_mono (let l : 53 ≤ n = omega (arith, ints, h) in l) in
    omega (arith, k.room n (omega (arith, ints, h)), mul-le 1 (2 ^ 53) size (2 ^ n) (omega (arith, odd)) up)

pub kept_top : (size : ℕ) (e : ℤ) → size % 2 ≡ 1 → IsKept size e → e ≤ℤ pos 452
kept_top size e odd k = by (e -ℤ pos 453) (omega (arith, ints))
  where
    by : (d : ℤ) → e ≡ pos 453 +ℤ d → e ≤ℤ pos 452
    by (pos n) p = absurd (beyond size e odd (omega (arith, ints, p)) k)
    by (negsuc n) p = omega (arith, ints, p)

zero_times : (z : ℤ) (p : ℕ) → z ≡ pos 0 → z *ℤ pos p ≡ pos 0
zero_times z p e = ap (λ (y : ℤ). y *ℤ pos p) e ∙ ap pos (let k : 0 * p ≡ 0 = omega arith in k)

pub zero_same : (x y : Exact) → x.significand ≡ pos 0 → y.significand ≡ pos 0 → IsSame x y
unfolding units
zero_same x y p q = zero_times x.significand (2 ^ nat_abs (x.exponent -ℤ common x y)) p ∙ sym (zero_times y.significand (2 ^ nat_abs (y.exponent -ℤ common x y)) q)

pub zero_constant : (x : Exact) → x.significand ≡ pos 0 → IsConstant x
zero_constant x e = record {
  form = record { significand = pos 0; exponent = pos 0 };
  bits = omega arith;
  least = omega (arith, ints);
  most = omega (arith, ints);
  same = zero_same (record { significand = pos 0; exponent = pos 0 }) x refl e;
}

pub same_turned : (x y : Exact) → IsSame x y → IsSame y x
same_turned x y h =
    let s : ℤ = common x y in
    let a : ℕ = nat_abs (x.exponent -ℤ s) in
    let b : ℕ = nat_abs (y.exponent -ℤ s) in
    let p : x.exponent ≡ s +ℤ pos a = omega (arith, ints, clamps) in
    let q : y.exponent ≡ s +ℤ pos b = omega (arith, ints, clamps) in
    same_at s y x b a q p (sym (same_from s x y a b p q h))

-- One form

pub zero_or : (z : ℤ) → (z ≡ pos 0) ⊎ (z ≡ pos 0 → ⊥)
zero_or (pos zero) = inl refl
zero_or (pos (suc n)) = inr (λ e. omega (arith, ints, e))
zero_or (negsuc n) = inr (λ e. omega (arith, ints, e))

no_zero : (x y : ℤ) (a b : ℕ) → x *ℤ pos (2 ^ a) ≡ y *ℤ pos (2 ^ b) → x ≡ pos 0 → (y ≡ pos 0 → ⊥) → ⊥
no_zero x y a b k z some = some (cancel y (pos 0) b (sym k ∙ zero_times x (2 ^ a) z ∙ sym (zero_times (pos 0) (2 ^ b) refl)))

alike : (x y : Exact) → x.significand ≡ y.significand → x.exponent ≡ y.exponent → x ≡ y
alike x y p q = λ i. record { significand = p i; exponent = q i }

odd_alike : (x y : Exact) (s : ℤ) (a b : ℕ) → x.exponent ≡ s +ℤ pos a → y.exponent ≡ s +ℤ pos b → nat_abs x.significand % 2 ≡ 1 → nat_abs y.significand % 2 ≡ 1 → x.significand *ℤ pos (2 ^ a) ≡ y.significand *ℤ pos (2 ^ b) → x ≡ y
odd_alike x y s a b p q f g k =
    let r = under x.significand y.significand a b f k in
    let t = under y.significand x.significand b a g (sym k) in
    let none : 0 ≡ r.0 = omega (arith, r.1, t.1) in
    alike x y
    (sym (times_one x.significand) ∙ ap (λ (i : ℕ). x.significand *ℤ pos (2 ^ i)) none ∙ r.2)
    (omega (arith, ints, p, q, r.1, t.1))

-- two numbers in the one form that are the same have the same parts
pub one_form : (x y : Exact) → IsReduced x → IsReduced y → IsSame x y → x ≡ y
one_form x y u v h =
    let s : ℤ = common x y in
    let a : ℕ = nat_abs (x.exponent -ℤ s) in
    let b : ℕ = nat_abs (y.exponent -ℤ s) in
    let p : x.exponent ≡ s +ℤ pos a = omega (arith, ints, clamps) in
    let q : y.exponent ≡ s +ℤ pos b = omega (arith, ints, clamps) in
    by s a b p q (same_from s x y a b p q h) (zero_or x.significand) (zero_or y.significand)
  where
    by : (s : ℤ) (a b : ℕ) → x.exponent ≡ s +ℤ pos a → y.exponent ≡ s +ℤ pos b → x.significand *ℤ pos (2 ^ a) ≡ y.significand *ℤ pos (2 ^ b) → (x.significand ≡ pos 0) ⊎ (x.significand ≡ pos 0 → ⊥) → (y.significand ≡ pos 0) ⊎ (y.significand ≡ pos 0 → ⊥) → x ≡ y
    by s a b p q k (inl e) (inl f) = alike x y (e ∙ sym f) (u.zero_form e ∙ sym (v.zero_form f))
    by s a b p q k (inl e) (inr f) = absurd (no_zero x.significand y.significand a b k e f)
    by s a b p q k (inr e) (inl f) = absurd (no_zero y.significand x.significand b a (sym k) f e)
    by s a b p q k (inr e) (inr f) = odd_alike x y s a b p q (u.odd e) (v.odd f) k

-- Powers of 2 taken out

pub signed-mul : (s : Bool) (n p : ℕ) → signed s n *ℤ pos p ≡ signed s (n * p)
signed-mul false n p = refl
signed-mul true zero p = omega (arith, ints)
signed-mul true (suc n) p = refl

pub size-signed : (s : Bool) (n : ℕ) → nat_abs (signed s n) ≡ n
size-signed false n = refl
size-signed true zero = refl
size-signed true (suc n) = refl

-- a size without its zero bits, and the exponent raised by them
pub raised_same : (s : Bool) (q n t : ℕ) (e f : ℤ) → q * 2 ^ t ≡ n → f ≡ e +ℤ pos t → IsSame (record { significand = signed s q; exponent = f }) (record { significand = signed s n; exponent = e })
raised_same s q n t e f h r =
    same_at e (record { significand = signed s q; exponent = f }) (record { significand = signed s n; exponent = e }) t 0 r (omega (arith, ints))
    (signed-mul s q (2 ^ t) ∙ ap (signed s) h ∙ sym (times_one (signed s n)))

pub odd_part : (n t : ℕ) → ((i : ℕ) → i < t → bit_at n i ≡ 0) → (n / 2 ^ t) * 2 ^ t ≡ n
odd_part n zero h = omega arith
odd_part n (suc t) h =
    let r = odd_part n t (λ i l. h i (omega (arith, l))) in
    let z : n / 2 ^ t % 2 ≡ 0 = h t (omega arith) in
    let e : n / 2 ^ suc t ≡ n / 2 ^ t / 2 = ap (λ (p : ℕ). n / p) (pow-suc 2 t) ∙ sym (div-div-eq-div-mul n (2 ^ t) 2) in
    let half : 2 * (n / 2 ^ t / 2) ≡ n / 2 ^ t = omega (arith, z) in
    nat_double (n / 2 ^ suc t) t ∙ sym (mul_assoc 2 (n / 2 ^ suc t) (2 ^ t)) ∙ ap (λ (p : ℕ). p * 2 ^ t) (ap (λ (q : ℕ). 2 * q) e ∙ half) ∙ r
