-- Orders of whole numbers, from orders of sizes.
use Rattle.std.proofs.Common.{ℕ, ◌*◌, ◌^◌, ◌<◌, ◌≤◌, ◌≡◌, refl, sym, ap, ◌∙◌, true, false, inl, inr, arith, Less, Equal, Greater}
use Rattle.std.specs.Prelude.{ℤ, pos, negsuc, ◌+ℤ◌, ◌-ℤ◌, ◌*ℤ◌, ◌≤ℤ◌, ◌<ℤ◌, neg_ℤ, nat_abs}
use Rattle.std.specs.Int.{int_max}
use Rattle.std.specs.Ordering.{int_cmp, nat_cmp, ordering_reverse}
use Rattle.std.specs.declared.cmp.Ordering.{Ordering}
use Rattle.std.specs.Cmp.{nat_cmp_is, int_cmp_is}
use Rattle.std.proofs.lemmas.Cmp.{nat_cmp_total}
use Rattle.std.proofs.lemmas.Int.{ints, clamps}
use Rattle.std.proofs.lemmas.Bool.{cases_order}
use Rattle.std.proofs.lemmas.Nat.{pow_pos, mul-le}
use Rattle.std.proofs.Math.Pow.{pow_mono}
use Rattle.num_type.specs.Whole.{is_below_zero}
use Rattle.fi_quant.proofs.Fits.{scaled}
use Rattle.fi_ops.specs.Elements.{Element}
use Rattle.fi_ops.specs.Operations.{aligned, compared}

-- the order of two numbers that aren't below 0
above : (x y : ℕ) → nat_cmp x y ≡ int_cmp (pos x) (pos y)
above x y = elim (cases_order x y) [
  | inl e ↦ sym (nat_cmp_is x y Equal e) ∙ int_cmp_is (pos x) (pos y) Equal (ap pos e)
  | inr (inl h) ↦ sym (nat_cmp_is x y Less h) ∙ int_cmp_is (pos x) (pos y) Less (omega (arith, ints))
  | inr (inr h) ↦ sym (nat_cmp_is x y Greater h) ∙ int_cmp_is (pos x) (pos y) Greater (omega (arith, ints))
]

-- and of two that are
below : (x y : ℕ) → nat_cmp y x ≡ int_cmp (neg_ℤ (pos x)) (neg_ℤ (pos y))
below x y = elim (cases_order y x) [
  | inl e ↦ sym (nat_cmp_is y x Equal e) ∙ int_cmp_is (neg_ℤ (pos x)) (neg_ℤ (pos y)) Equal (ap (λ (n : ℕ). neg_ℤ (pos n)) (sym e))
  | inr (inl h) ↦ sym (nat_cmp_is y x Less h) ∙ int_cmp_is (neg_ℤ (pos x)) (neg_ℤ (pos y)) Less (omega (arith, ints))
  | inr (inr h) ↦ sym (nat_cmp_is y x Greater h) ∙ int_cmp_is (neg_ℤ (pos x)) (neg_ℤ (pos y)) Greater (omega (arith, ints))
]

-- the bits by which an element is moved to the common fraction length
abbrev pub moved : Element → Element → Element → ℕ
moved a b c = nat_abs (int_max a.num.fraction b.num.fraction -ℤ c.num.fraction)

pub both_above : (a b : Element) (x y : ℕ) → false ≡ is_below_zero a.z → false ≡ is_below_zero b.z → x ≡ nat_abs a.z → y ≡ nat_abs b.z → nat_cmp (x * 2 ^ moved a b a) (y * 2 ^ moved a b b) ≡ compared a b
unfolding compared aligned
both_above a b x y f g h k =
    let p = scaled a.z false x (2 ^ moved a b a) f h in
    let q = scaled b.z false y (2 ^ moved a b b) g k in
    rw (sym p, sym q) (above (x * 2 ^ moved a b a) (y * 2 ^ moved a b b))

max_turned : (f g : ℤ) → int_max f g ≡ int_max g f
max_turned f g = omega (arith, ints, clamps)

pub both_below : (a b : Element) (x y : ℕ) → true ≡ is_below_zero a.z → true ≡ is_below_zero b.z → x ≡ nat_abs a.z → y ≡ nat_abs b.z → nat_cmp (y * 2 ^ moved b a b) (x * 2 ^ moved b a a) ≡ compared a b
unfolding compared aligned
both_below a b x y f g h k =
    let p = scaled a.z true x (2 ^ moved a b a) f h in
    let q = scaled b.z true y (2 ^ moved a b b) g k in
    rw (sym p, sym q, max_turned b.num.fraction a.num.fraction) (below (x * 2 ^ moved a b a) (y * 2 ^ moved a b b))

below_size : (z : ℤ) → true ≡ is_below_zero z → 0 < nat_abs z
below_size (pos n) f = cc
below_size (negsuc n) f = omega (arith, ints)

negative : (z : ℤ) (p : ℕ) → 0 < p → true ≡ is_below_zero z → (z *ℤ pos p) <ℤ pos 0
negative z p h f =
    let e = scaled z true (nat_abs z) p f refl in
    let s : 0 < nat_abs z = below_size z f in
    let m : 1 * 1 ≤ nat_abs z * p = mul-le 1 1 (nat_abs z) p s h in
    omega (arith, ints, e)

pub left_below : (a b : Element) → true ≡ is_below_zero a.z → false ≡ is_below_zero b.z → Less ≡ compared a b
unfolding compared aligned
left_below a b f g =
    let n = negative a.z (2 ^ moved a b a) (pow_pos (moved a b a)) f in
    let q = scaled b.z false (nat_abs b.z) (2 ^ moved a b b) g refl in
    int_cmp_is (a.z *ℤ pos (2 ^ moved a b a)) (b.z *ℤ pos (2 ^ moved a b b)) Less (omega (arith, ints, n, q))

pub right_below : (a b : Element) → false ≡ is_below_zero a.z → true ≡ is_below_zero b.z → Greater ≡ compared a b
unfolding compared aligned
right_below a b f g =
    let n = negative b.z (2 ^ moved a b b) (pow_pos (moved a b b)) g in
    let q = scaled a.z false (nat_abs a.z) (2 ^ moved a b a) f refl in
    int_cmp_is (a.z *ℤ pos (2 ^ moved a b a)) (b.z *ℤ pos (2 ^ moved a b b)) Greater (omega (arith, ints, n, q))

-- ---- sizes at two fraction lengths

pub less_moved : (x y : ℕ) (f g : ℤ) (n : ℕ) (r : Ordering) → f <ℤ g → g ≡ f +ℤ pos n → r ≡ nat_cmp (x * 2 ^ n) y → r ≡ nat_cmp (x * 2 ^ nat_abs (int_max f g -ℤ f)) (y * 2 ^ nat_abs (int_max f g -ℤ g))
less_moved x y f g n r h e k =
    let p : nat_abs (int_max f g -ℤ f) ≡ n = omega (arith, ints, clamps) in
    let q : nat_abs (int_max f g -ℤ g) ≡ 0 = omega (arith, ints, clamps) in
    let o : y * 2 ^ 0 ≡ y = omega arith in
    rw (p, q, o) k

pub more_moved : (x y : ℕ) (f g : ℤ) (n : ℕ) (r s : Ordering) → g ≤ℤ f → f ≡ g +ℤ pos n → r ≡ nat_cmp (y * 2 ^ n) x → s ≡ ordering_reverse r → s ≡ nat_cmp (x * 2 ^ nat_abs (int_max f g -ℤ f)) (y * 2 ^ nat_abs (int_max f g -ℤ g))
more_moved x y f g n r s h e k l =
    let p : nat_abs (int_max f g -ℤ f) ≡ 0 = omega (arith, ints, clamps) in
    let q : nat_abs (int_max f g -ℤ g) ≡ n = omega (arith, ints, clamps) in
    let o : x * 2 ^ 0 ≡ x = omega arith in
    rw (p, q, o) (l ∙ ap ordering_reverse k ∙ sym (nat_cmp_total.antisymm x (y * 2 ^ n)))

pub far_above : (x n y : ℕ) → 0 < x → 128 ≤ n → y < 2 ^ 128 → Greater ≡ nat_cmp (x * 2 ^ n) y
far_above x n y h k l =
    let p : 2 ^ 128 ≤ 2 ^ n = pow_mono k in
    let m : 1 * 2 ^ 128 ≤ x * 2 ^ n = mul-le 1 (2 ^ 128) x (2 ^ n) h p in
    nat_cmp_is (x * 2 ^ n) y Greater (omega arith)

-- ---- the two ways in which sizes are compared
pub sizes_above : (a b : Element) (x y : ℕ) (f g : ℤ) (r : Ordering) → false ≡ is_below_zero a.z → false ≡ is_below_zero b.z → x ≡ nat_abs a.z → y ≡ nat_abs b.z → f ≡ a.num.fraction → g ≡ b.num.fraction
    → r ≡ nat_cmp (x * 2 ^ nat_abs (int_max f g -ℤ f)) (y * 2 ^ nat_abs (int_max f g -ℤ g)) → r ≡ compared a b
sizes_above a b x y f g r h k i j p q e =
    let w : r ≡ nat_cmp (x * 2 ^ moved a b a) (y * 2 ^ moved a b b) = rw (sym p, sym q) e in
    w ∙ both_above a b x y h k i j

pub sizes_below : (a b : Element) (x y : ℕ) (f g : ℤ) (r : Ordering) → true ≡ is_below_zero a.z → true ≡ is_below_zero b.z → x ≡ nat_abs a.z → y ≡ nat_abs b.z → f ≡ a.num.fraction → g ≡ b.num.fraction
    → r ≡ nat_cmp (y * 2 ^ nat_abs (int_max g f -ℤ g)) (x * 2 ^ nat_abs (int_max g f -ℤ f)) → r ≡ compared a b
sizes_below a b x y f g r h k i j p q e =
    let w : r ≡ nat_cmp (y * 2 ^ moved b a b) (x * 2 ^ moved b a a) = rw (sym p, sym q) e in
    w ∙ both_below a b x y h k i j
