-- Sums and products of the same numbers are the same.
use Rattle.std.proofs.Common.{◌≡◌, ℕ, ◌+◌, ◌-◌, ◌*◌, ◌^◌, sym, ap, ◌∙◌, arith}
use Rattle.std.specs.Prelude.{ℤ, pos, ◌+ℤ◌, ◌-ℤ◌, ◌*ℤ◌, neg_ℤ, nat_abs}
use Rattle.std.specs.Int.{int_min}
use Rattle.std.proofs.lemmas.Int.{ints, clamps}
use Rattle.std.proofs.lemmas.Nat.{pow-add}
use Rattle.num_type.specs.Constants.{Exact, units, common, IsSame, sum_of, opposite, difference, product_of}
use Rattle.num_type.proofs.Constants.{same_at, same_from, units_at, parted}
use Rattle.const_eval.proofs.Products.{distrib, times_both}

-- a sum at a scale at which both numbers are whole
sum_at : (s : ℤ) (x y : Exact) (a b : ℕ) → x.exponent ≡ s +ℤ pos a → y.exponent ≡ s +ℤ pos b → (sum_of x y).significand *ℤ pos (2 ^ nat_abs (common x y -ℤ s)) ≡ x.significand *ℤ pos (2 ^ a) +ℤ y.significand *ℤ pos (2 ^ b)
sum_at s x y a b p q =
    let c : ℕ = nat_abs (common x y -ℤ s) in
    let i : ℕ = a - c in
    let j : ℕ = b - c in
    let up : x.exponent ≡ common x y +ℤ pos i = omega (arith, ints, clamps, p, q) in
    let vp : y.exponent ≡ common x y +ℤ pos j = omega (arith, ints, clamps, p, q) in
    let ua : i + c ≡ a = omega (arith, ints, clamps, p, q) in
    let vb : j + c ≡ b = omega (arith, ints, clamps, p, q) in
    distrib (units (common x y) x) (units (common x y) y) (2 ^ c)
    ∙ (λ k. at_scale x i c a up ua k +ℤ at_scale y j c b vp vb k)
  where
    at_scale : (z : Exact) (i c a : ℕ) → z.exponent ≡ common x y +ℤ pos i → i + c ≡ a → units (common x y) z *ℤ pos (2 ^ c) ≡ z.significand *ℤ pos (2 ^ a)
    at_scale z i c a e f =
        ap (λ (w : ℤ). w *ℤ pos (2 ^ c)) (units_at (common x y) z i e)
        ∙ sym (parted z.significand i c)
        ∙ ap (λ (k : ℕ). z.significand *ℤ pos (2 ^ k)) f

pub sum_same : (x u y v : Exact) → IsSame x u → IsSame y v → IsSame (sum_of x y) (sum_of u v)
sum_same x u y v h k =
    let s : ℤ = int_min (common x y) (common u v) in
    let a : ℕ = nat_abs (x.exponent -ℤ s) in
    let b : ℕ = nat_abs (y.exponent -ℤ s) in
    let c : ℕ = nat_abs (u.exponent -ℤ s) in
    let d : ℕ = nat_abs (v.exponent -ℤ s) in
    let xe : x.exponent ≡ s +ℤ pos a = omega (arith, ints, clamps) in
    let ye : y.exponent ≡ s +ℤ pos b = omega (arith, ints, clamps) in
    let ue : u.exponent ≡ s +ℤ pos c = omega (arith, ints, clamps) in
    let ve : v.exponent ≡ s +ℤ pos d = omega (arith, ints, clamps) in
    let first : x.significand *ℤ pos (2 ^ a) ≡ u.significand *ℤ pos (2 ^ c) = same_from s x u a c xe ue h in
    let second : y.significand *ℤ pos (2 ^ b) ≡ v.significand *ℤ pos (2 ^ d) = same_from s y v b d ye ve k in
    same_at s (sum_of x y) (sum_of u v) (nat_abs (common x y -ℤ s)) (nat_abs (common u v -ℤ s)) (omega (arith, ints, clamps)) (omega (arith, ints, clamps))
    (sum_at s x y a b xe ye ∙ (λ i. first i +ℤ second i) ∙ sym (sum_at s u v c d ue ve))

-- the opposite of the same number
pub minus_times : (z : ℤ) (p : ℕ) → neg_ℤ z *ℤ pos p ≡ neg_ℤ (z *ℤ pos p)
minus_times z p =
    let e : (z +ℤ neg_ℤ z) *ℤ pos p ≡ z *ℤ pos p +ℤ neg_ℤ z *ℤ pos p = distrib z (neg_ℤ z) p in
    let n : z +ℤ neg_ℤ z ≡ pos 0 = omega (arith, ints) in
    let o : (z +ℤ neg_ℤ z) *ℤ pos p ≡ pos 0 = ap (λ (w : ℤ). w *ℤ pos p) n ∙ ap pos (let k : 0 * p ≡ 0 = omega arith in k) in
    omega (arith, ints, e, o)

pub opposite_same : (x u : Exact) → IsSame x u → IsSame (opposite x) (opposite u)
opposite_same x u h =
    let s : ℤ = common x u in
    let a : ℕ = nat_abs (x.exponent -ℤ s) in
    let c : ℕ = nat_abs (u.exponent -ℤ s) in
    let xe : x.exponent ≡ s +ℤ pos a = omega (arith, ints, clamps) in
    let ue : u.exponent ≡ s +ℤ pos c = omega (arith, ints, clamps) in
    same_at s (opposite x) (opposite u) a c xe ue
    (minus_times x.significand (2 ^ a) ∙ ap neg_ℤ (same_from s x u a c xe ue h) ∙ sym (minus_times u.significand (2 ^ c)))

pub difference_same : (x u y v : Exact) → IsSame x u → IsSame y v → IsSame (difference x y) (difference u v)
difference_same x u y v h k = sum_same x u (opposite y) (opposite v) h (opposite_same y v k)

pub product_same : (x u y v : Exact) → IsSame x u → IsSame y v → IsSame (product_of x y) (product_of u v)
product_same x u y v h k =
    let s : ℤ = common x u in
    let t : ℤ = common y v in
    let a : ℕ = nat_abs (x.exponent -ℤ s) in
    let c : ℕ = nat_abs (u.exponent -ℤ s) in
    let b : ℕ = nat_abs (y.exponent -ℤ t) in
    let d : ℕ = nat_abs (v.exponent -ℤ t) in
    let xe : x.exponent ≡ s +ℤ pos a = omega (arith, ints, clamps) in
    let ue : u.exponent ≡ s +ℤ pos c = omega (arith, ints, clamps) in
    let ye : y.exponent ≡ t +ℤ pos b = omega (arith, ints, clamps) in
    let ve : v.exponent ≡ t +ℤ pos d = omega (arith, ints, clamps) in
    let first : x.significand *ℤ pos (2 ^ a) ≡ u.significand *ℤ pos (2 ^ c) = same_from s x u a c xe ue h in
    let second : y.significand *ℤ pos (2 ^ b) ≡ v.significand *ℤ pos (2 ^ d) = same_from t y v b d ye ve k in
    same_at (s +ℤ t) (product_of x y) (product_of u v) (a + b) (c + d) (omega (arith, ints, xe, ye)) (omega (arith, ints, ue, ve))
    (split x.significand y.significand a b ∙ (λ i. first i *ℤ second i) ∙ sym (split u.significand v.significand c d))
  where
    split : (m n : ℤ) (a b : ℕ) → (m *ℤ n) *ℤ pos (2 ^ (a + b)) ≡ (m *ℤ pos (2 ^ a)) *ℤ (n *ℤ pos (2 ^ b))
    split m n a b = ap (λ (p : ℕ). (m *ℤ n) *ℤ pos p) (pow-add 2 a b) ∙ times_both m n (2 ^ a) (2 ^ b)
