-- What the private parts of rounding and fitting say.
use Rattle.std.specs.Prelude.{ℕ, ℤ, pos, ◌+ℤ◌, ◌*ℤ◌, Bool, true, false, not, ◌&&◌, ◌+◌, ◌*◌, ◌^◌, ◌<◌, ◌≡◌}
use Rattle.num_type.specs.declared.methods.Rounding.{Rounding}
use Rattle.num_type.specs.declared.methods.Rounding.TheVariants.{Ceiling, Floor, Zero, Nearest, Round, Convergent}
use Rattle.fi_quant.specs.declared.rounding.Rest.{Rest}
use Rattle.fi_quant.specs.declared.rounding.Rest.TheVariants.{Nothing, BelowHalf, Half, AboveHalf}

-- r against half of p
abbrev pub IsRest : Rest → ℕ → ℕ → Type 0
IsRest Nothing r p = (r ≡ 0) × (0 < p)
IsRest BelowHalf r p = (0 < r) × (2 * r < p)
IsRest Half r p = (0 < r) × (2 * r ≡ p)
IsRest AboveHalf r p = (p < 2 * r) × (r < p)

-- n is whole * 2 ^ k and a rest
pub record IsSplit (n k whole : ℕ) (rest : Rest) : Type 0 where
  pub left : ℕ
  pub sum : n ≡ whole * 2 ^ k + left
  pub part : IsRest rest left (2 ^ k)

-- whether anything is left over
abbrev pub leaves_of : Rest → Bool
leaves_of Nothing = false
leaves_of BelowHalf = true
leaves_of Half = true
leaves_of AboveHalf = true

-- whether more than half is left over, or just half where a tie moves
abbrev pub past_half_of : Rest → Bool → Bool
past_half_of Nothing tie = false
past_half_of BelowHalf tie = false
past_half_of Half tie = tie
past_half_of AboveHalf tie = true

-- whether the method moves a size away from 0
abbrev pub rounds_up_of : Rounding → Bool → Bool → Rest → Bool
rounds_up_of Ceiling neg odd rest = leaves_of rest && not neg
rounds_up_of Floor neg odd rest = leaves_of rest && neg
rounds_up_of Zero neg odd rest = false
rounds_up_of Nearest neg odd rest = past_half_of rest (not neg)
rounds_up_of Round neg odd rest = past_half_of rest true
rounds_up_of Convergent neg odd rest = past_half_of rest odd

-- whether c is above 0
abbrev pub IsOver : Bool → ℕ → Type 0
IsOver true c = 0 < c
IsOver false c = c ≡ 0

-- z and q differ by a multiple of m
pub record IsCongruent (m : ℕ) (z q : ℤ) : Type 0 where
  pub turns : ℤ
  pub congruent : z ≡ q +ℤ turns *ℤ pos m

-- a size, or one more where the flag is set
abbrev pub step : Bool → ℕ → ℕ
step true f = f + 1
step false f = f
