-- Whole numbers brought into a range, and exact values taken to a type.
use Rattle.std.specs.Prelude.{ℕ, ℤ, pos, ◌+ℤ◌, ◌-ℤ◌, ◌*ℤ◌, ◌≤ℤ◌, ◌<◌, ◌≤◌, ◌^◌, ◌≡◌, nat_abs}
use Rattle.num_type.specs.Types.{NumericType, low, high}
use Rattle.num_type.specs.declared.methods.Rounding.{Rounding}
use Rattle.num_type.specs.declared.methods.Overflow.{Overflow}
use Rattle.num_type.specs.declared.methods.Overflow.TheVariants.{Saturate, Wrap}
use Rattle.fi_quant.specs.Round.{IsRounded}

-- q is the number from bottom to top that is nearest to z
pub record IsNearestIn (bottom top z q : ℤ) : Type 0 where
  pub least : bottom ≤ℤ q
  pub most : q ≤ℤ top
  pub nearest : (w : ℤ) → bottom ≤ℤ w → w ≤ℤ top → nat_abs (z -ℤ q) ≤ nat_abs (z -ℤ w)

-- q is a number from bottom to top that differs from z by a multiple of m
pub record IsWrapped (bottom top : ℤ) (m : ℕ) (z q : ℤ) : Type 0 where
  pub least : bottom ≤ℤ q
  pub most : q ≤ℤ top
  pub turns : ℤ
  pub congruent : z ≡ q +ℤ turns *ℤ pos m

-- q is the number of the type's range that the action gives for z
abbrev pub IsFit : Overflow → NumericType → ℤ → ℤ → Type 0
IsFit Saturate t z q = IsNearestIn (low t) (high t) z q
IsFit Wrap t z q = IsWrapped (low t) (high t) (2 ^ t.word) z q

-- q is what the exact z * 2 ^ -f becomes in the type: rounded where bits are dropped, and then brought into range
pub record IsQuantised (m : Rounding) (a : Overflow) (t : NumericType) (z f q : ℤ) : Type 0 where
  pub widened : (n : ℕ) → t.fraction ≡ f +ℤ pos n → IsFit a t (z *ℤ pos (2 ^ n)) q
  pub narrowed : (k : ℕ) → f ≡ t.fraction +ℤ pos k → 0 < k → (r : ℤ) × IsRounded m z k r × IsFit a t r q
