-- Numbers without the powers of a base that divide them.
use Rattle.std.specs.Prelude.{ℕ, zero, suc, ◌/◌, ◌%◌, ◌==◌, true, false}

-- a number as part * base ^ power
pub record Split : Type 0 where
  pub part : ℕ
  pub power : ℕ

abbrev pub once_more : Split → Split
once_more s = record { part = s.part; power = suc s.power }

-- the base taken out as often as it divides the number, but no more often than the bound says
unfoldable pub split_up_to : ℕ → ℕ → ℕ → Split
split_up_to base zero n = record { part = n; power = 0 }
split_up_to base (suc most) n = elim (n % base == 0) [
  | true ↦ once_more (split_up_to base most (n / base))
  | false ↦ record { part = n; power = 0 }
]

-- the base taken out as often as it divides a number that isn't 0: less often than its size says, for a base of 2 or more
abbrev pub split : ℕ → ℕ → Split
split base n = split_up_to base n n
