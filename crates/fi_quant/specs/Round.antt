-- Rounding of z / p to a whole number q, by inequalities on whole numbers.
use Rattle.std.specs.Prelude.{ℕ, ℤ, pos, ◌+ℤ◌, ◌-ℤ◌, ◌*ℤ◌, ◌≤ℤ◌, ◌<ℤ◌, ◌*◌, ◌^◌, ◌%◌, ◌<◌, ◌≤◌, ◌≡◌, nat_abs}
use Rattle.num_type.specs.declared.methods.Rounding.{Rounding}
use Rattle.num_type.specs.declared.methods.Rounding.TheVariants.{Ceiling, Floor, Zero, Nearest, Round, Convergent}

-- q is the greatest whole number not above z / p
pub record IsFloor (z : ℤ) (p : ℕ) (q : ℤ) : Type 0 where
  pub least : (q *ℤ pos p) ≤ℤ z
  pub most : z <ℤ ((q +ℤ pos 1) *ℤ pos p)

-- q is the least whole number not below z / p
pub record IsCeiling (z : ℤ) (p : ℕ) (q : ℤ) : Type 0 where
  pub least : ((q -ℤ pos 1) *ℤ pos p) <ℤ z
  pub most : z ≤ℤ (q *ℤ pos p)

-- q is z / p without its fraction
pub record IsTowardZero (z : ℤ) (p : ℕ) (q : ℤ) : Type 0 where
  pub from_above : pos 0 ≤ℤ z → IsFloor z p q
  pub from_below : z <ℤ pos 0 → IsCeiling z p q

-- q is the whole number nearest to z / p, a tie goes up
pub record IsNearest (z : ℤ) (p : ℕ) (q : ℤ) : Type 0 where
  pub least : ((pos 2 *ℤ q -ℤ pos 1) *ℤ pos p) ≤ℤ (pos 2 *ℤ z)
  pub most : (pos 2 *ℤ z) <ℤ ((pos 2 *ℤ q +ℤ pos 1) *ℤ pos p)

-- twice the distance of z from q * p
abbrev pub twice_off : ℤ → ℕ → ℤ → ℕ
twice_off z p q = nat_abs (pos 2 *ℤ z -ℤ pos 2 *ℤ q *ℤ pos p)

-- q is the whole number nearest to z / p, a tie goes away from 0
pub record IsNearestAway (z : ℤ) (p : ℕ) (q : ℤ) : Type 0 where
  pub near : twice_off z p q ≤ p
  pub tie : twice_off z p q ≡ p → nat_abs z < nat_abs q * p

-- q is the whole number nearest to z / p, a tie goes to the even one
pub record IsNearestEven (z : ℤ) (p : ℕ) (q : ℤ) : Type 0 where
  pub near : twice_off z p q ≤ p
  pub tie : twice_off z p q ≡ p → nat_abs q % 2 ≡ 0

-- q is z / 2 ^ k, rounded by the method
abbrev pub IsRounded : Rounding → ℤ → ℕ → ℤ → Type 0
IsRounded Ceiling z k q = IsCeiling z (2 ^ k) q
IsRounded Floor z k q = IsFloor z (2 ^ k) q
IsRounded Zero z k q = IsTowardZero z (2 ^ k) q
IsRounded Nearest z k q = IsNearest z (2 ^ k) q
IsRounded Round z k q = IsNearestAway z (2 ^ k) q
IsRounded Convergent z k q = IsNearestEven z (2 ^ k) q
