-- Under full types nothing is rounded, and products and sums are exact.
use Rattle.std.proofs.Common.{ℕ, ◌^◌, ◌≤◌, ◌≡◌, refl, sym, ap, ◌∙◌, Bool, true, false, ◌||◌, arith}
use Rattle.std.specs.Prelude.{ℤ, pos, neg_ℤ, nat_abs, ◌+ℤ◌, ◌-ℤ◌, ◌*ℤ◌}
use Rattle.std.proofs.lemmas.Int.{ints, clamps}
use Rattle.std.proofs.lemmas.Bool.{cond-true, cond-false}
use Rattle.num_type.specs.Types.{NumericType, IsInRange}
use Rattle.fi_quant.specs.Numbers.{fitted}
use Rattle.fi_quant.proofs.Exact.{fitted_same, quantised_exact, quantised_fitted, quantised_same}
use Rattle.fi_math.specs.declared.fimath.Fimath.{Fimath}
use Rattle.fi_math.specs.Full.{full_product, full_sum}
use Rattle.fi_ops.specs.Elements.{Element, IsElement}
use Rattle.fi_ops.specs.Operations.{common, aligned, taken, multiplied, joined, summed, subtracted, negated, absolute}
use Rattle.fi_ops.proofs.Ranges.{left_inside, right_inside, sum_inside, difference_inside, product_inside}

some_sum : (a b : NumericType) → 1 ≤ (full_sum a b).word
some_sum a b = omega arith

some_product : (a b : NumericType) → 1 ≤ a.word → 1 ≤ (full_product a b).word
some_product a b h = omega arith

-- an operand taken to a type of its aligned fraction length
taken_aligned : (m : Fimath) (t : NumericType) (a : Element) (f : ℤ) (n : ℕ) → 1 ≤ t.word → t.fraction ≡ f → f ≡ a.num.fraction +ℤ pos n → nat_abs (f -ℤ a.num.fraction) ≡ n → IsInRange t (a.z *ℤ pos (2 ^ n)) → taken m t a.z a.num.fraction ≡ aligned f a
unfolding taken aligned
taken_aligned m t a f n one e g k h = quantised_exact m.rounding m.overflow t a.z a.num.fraction n one (e ∙ g) h ∙ ap (λ (i : ℕ). a.z *ℤ pos (2 ^ i)) (sym k)

pub taken_left : (m : Fimath) (a b : Element) → IsElement a → taken m (full_sum a.num b.num) a.z a.num.fraction ≡ aligned (common a b) a
taken_left m a b h = taken_aligned m (full_sum a.num b.num) a (common a b) (nat_abs (common a b -ℤ a.num.fraction)) (some_sum a.num b.num) refl (omega (arith, ints, clamps)) refl (left_inside a.num b.num a.z h.one_bit h.in_range)

pub taken_right : (m : Fimath) (a b : Element) → IsElement b → taken m (full_sum a.num b.num) b.z b.num.fraction ≡ aligned (common a b) b
taken_right m a b h = taken_aligned m (full_sum a.num b.num) b (common a b) (nat_abs (common a b -ℤ b.num.fraction)) (some_sum a.num b.num) refl (omega (arith, ints, clamps)) refl (right_inside a.num b.num b.z h.one_bit h.in_range)

taken_fitted : (m : Fimath) (t : NumericType) (z f : ℤ) → t.fraction ≡ f → taken m t z f ≡ fitted m.overflow t z
unfolding taken
taken_fitted m t z f e = quantised_fitted m.rounding m.overflow t z f e

by_cast : (join : ℤ → ℤ → ℤ) (m : Fimath) (a b : Element) (c : Bool) → m.cast_before_sum ≡ c → IsElement a → IsElement b → joined join m (full_sum a.num b.num) a b ≡ fitted m.overflow (full_sum a.num b.num) (join (aligned (common a b) a) (aligned (common a b) b))
unfolding joined
by_cast join m a b true e h k =
    let x = taken_left m a b h in
    let y = taken_right m a b k in
    cond-true m.cast_before_sum _ _ e ∙ ap (λ (i : ℤ). fitted m.overflow (full_sum a.num b.num) (join i (taken m (full_sum a.num b.num) b.z b.num.fraction))) x
    ∙ ap (λ (i : ℤ). fitted m.overflow (full_sum a.num b.num) (join (aligned (common a b) a) i)) y
by_cast join m a b false e h k = cond-false m.cast_before_sum _ _ e ∙ taken_fitted m (full_sum a.num b.num) (join (aligned (common a b) a) (aligned (common a b) b)) (common a b) refl

-- a sum or difference in its full type: the exact one, brought into range, with or without CastBeforeSum
pub joined_full : (join : ℤ → ℤ → ℤ) (m : Fimath) (a b : Element) → IsElement a → IsElement b → joined join m (full_sum a.num b.num) a b ≡ fitted m.overflow (full_sum a.num b.num) (join (aligned (common a b) a) (aligned (common a b) b))
joined_full join m a b h k = by_cast join m a b m.cast_before_sum refl h k

-- the exact sum is in the range of its full type
pub sum_in_range : (a b : Element) → IsElement a → IsElement b → IsInRange (full_sum a.num b.num) (aligned (common a b) a +ℤ aligned (common a b) b)
unfolding aligned
sum_in_range a b h k = sum_inside a.num b.num a.z b.z h.one_bit k.one_bit h.in_range k.in_range

pub sum_exact : (m : Fimath) (a b : Element) → IsElement a → IsElement b → summed m (full_sum a.num b.num) a b ≡ aligned (common a b) a +ℤ aligned (common a b) b
sum_exact m a b h k = joined_full (λ x y. x +ℤ y) m a b h k ∙ fitted_same m.overflow (full_sum a.num b.num) (aligned (common a b) a +ℤ aligned (common a b) b) (some_sum a.num b.num) (sum_in_range a b h k)

-- so is the exact difference, where an operand is signed
pub difference_in_range : (a b : Element) → (a.num.signed || b.num.signed) ≡ true → IsElement a → IsElement b → IsInRange (full_sum a.num b.num) (aligned (common a b) a -ℤ aligned (common a b) b)
unfolding aligned
difference_in_range a b s h k = difference_inside a.num b.num a.z b.z s h.one_bit k.one_bit h.in_range k.in_range

pub difference_exact : (m : Fimath) (a b : Element) → (a.num.signed || b.num.signed) ≡ true → IsElement a → IsElement b → subtracted m (full_sum a.num b.num) a b ≡ aligned (common a b) a -ℤ aligned (common a b) b
difference_exact m a b s h k = joined_full (λ x y. x -ℤ y) m a b h k ∙ fitted_same m.overflow (full_sum a.num b.num) (aligned (common a b) a -ℤ aligned (common a b) b) (some_sum a.num b.num) (difference_in_range a b s h k)

-- the exact product is in the range of its full type
pub product_in_range : (a b : Element) → IsElement a → IsElement b → IsInRange (full_product a.num b.num) (a.z *ℤ b.z)
product_in_range a b h k = product_inside a.num b.num a.z b.z h.one_bit k.one_bit h.in_range k.in_range

pub product_exact : (m : Fimath) (a b : Element) → IsElement a → IsElement b → multiplied m (full_product a.num b.num) a b ≡ a.z *ℤ b.z
unfolding multiplied taken
product_exact m a b h k = quantised_same m.rounding m.overflow (full_product a.num b.num) (a.z *ℤ b.z) (a.num.fraction +ℤ b.num.fraction) (some_product a.num b.num h.one_bit) refl (product_in_range a b h k)

pub difference_full : (m : Fimath) (a b : Element) → IsElement a → IsElement b → subtracted m (full_sum a.num b.num) a b ≡ fitted m.overflow (full_sum a.num b.num) (aligned (common a b) a -ℤ aligned (common a b) b)
difference_full m a b h k = joined_full (λ x y. x -ℤ y) m a b h k

-- ---- signs

-- a negated number of the range is exact
pub negated_exact : (m : Fimath) (a : Element) → 1 ≤ a.num.word → IsInRange a.num (neg_ℤ a.z) → negated m a ≡ neg_ℤ a.z
unfolding negated
negated_exact m a one h = fitted_same m.overflow a.num (neg_ℤ a.z) one h

pub absolute_exact : (m : Fimath) (a : Element) → 1 ≤ a.num.word → IsInRange a.num (pos (nat_abs a.z)) → absolute m a ≡ pos (nat_abs a.z)
unfolding absolute
absolute_exact m a one h = fitted_same m.overflow a.num (pos (nat_abs a.z)) one h
