-- Where an exact value is in the range of a type, nothing is rounded and nothing overflows.
use Rattle.std.proofs.Common.{ℕ, ◌^◌, ◌≤◌, ◌≡◌, ap, ◌∙◌, arith}
use Rattle.std.specs.Prelude.{ℤ, pos, ◌+ℤ◌, ◌-ℤ◌, ◌*ℤ◌}
use Rattle.std.proofs.lemmas.Int.{ints}
use Rattle.num_type.specs.declared.methods.Rounding.{Rounding}
use Rattle.num_type.specs.declared.methods.Overflow.{Overflow}
use Rattle.num_type.specs.declared.methods.Overflow.TheVariants.{Saturate, Wrap}
use Rattle.num_type.specs.Types.{NumericType, low, high, IsInRange}
use Rattle.fi_quant.specs.Fit.{IsFit}
use Rattle.fi_quant.specs.Numbers.{fitted, quantised}
use Rattle.fi_quant.proofs.Fits.{inside}
use Rattle.fi_quant.proofs.Once.{fit_once}
use Rattle.fi_quant.proofs.Exist.{fitted_is, scaled_up}

fits_itself : (a : Overflow) (t : NumericType) (z : ℤ) → IsInRange t z → IsFit a t z z
fits_itself Saturate t z h = inside (low t) (high t) z h.least h.most
fits_itself Wrap t z h = record { least = h.least; most = h.most; turns = pos 0; congruent = omega (arith, ints) }

-- a number of the range stays
pub fitted_same : (a : Overflow) (t : NumericType) (z : ℤ) → 1 ≤ t.word → IsInRange t z → fitted a t z ≡ z
fitted_same a t z one h = fit_once a t z (fitted a t z) z one (fitted_is a t z one) (fits_itself a t z h)

-- a type with n more fraction bits: the number times 2 ^ n, brought into range
pub quantised_up : (m : Rounding) (a : Overflow) (t : NumericType) (z f : ℤ) (n : ℕ) → t.fraction ≡ f +ℤ pos n → quantised m a t z f ≡ fitted a t (z *ℤ pos (2 ^ n))
unfolding quantised
quantised_up m a t z f n e = ap (fitted a t) (scaled_up m z (t.fraction -ℤ f) n (omega (arith, ints)))

-- where that number is in the range, it is exact
pub quantised_exact : (m : Rounding) (a : Overflow) (t : NumericType) (z f : ℤ) (n : ℕ) → 1 ≤ t.word → t.fraction ≡ f +ℤ pos n → IsInRange t (z *ℤ pos (2 ^ n)) → quantised m a t z f ≡ z *ℤ pos (2 ^ n)
quantised_exact m a t z f n one e h = quantised_up m a t z f n e ∙ fitted_same a t (z *ℤ pos (2 ^ n)) one h

times_one : (z : ℤ) → z *ℤ pos (2 ^ 0) ≡ z
times_one z = omega (arith, ints)

-- a type of the same fraction length: the number itself, brought into range
pub quantised_fitted : (m : Rounding) (a : Overflow) (t : NumericType) (z f : ℤ) → t.fraction ≡ f → quantised m a t z f ≡ fitted a t z
quantised_fitted m a t z f e = quantised_up m a t z f 0 (omega (arith, ints)) ∙ ap (fitted a t) (times_one z)

pub quantised_same : (m : Rounding) (a : Overflow) (t : NumericType) (z f : ℤ) → 1 ≤ t.word → t.fraction ≡ f → IsInRange t z → quantised m a t z f ≡ z
quantised_same m a t z f one e h = quantised_fitted m a t z f e ∙ fitted_same a t z one h
