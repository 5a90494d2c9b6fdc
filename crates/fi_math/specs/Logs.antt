-- Logarithms of base 2, rounded up.
use Rattle.std.specs.Prelude.{ℕ, zero, suc, ◌+◌, ◌/◌, nat_lt, if◌then◌else◌}

-- how often n is halved, rounded up, until it is 1 or less, at most f times
unfoldable pub halvings : ℕ → ℕ → ℕ
halvings zero n = 0
halvings (suc f) n = if nat_lt 1 n then suc (halvings f ((n + 1) / 2)) else 0

-- the least k with n ≤ 2 ^ k
abbrev pub log2_up : ℕ → ℕ
log2_up n = halvings n n
