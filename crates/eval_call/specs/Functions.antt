-- Functions that make arrays of one number, and the values that functions take.
use Rattle.std.specs.Prelude.{ℕ, zero, suc, Bool, true, false, bytes_eq, codes, if◌then◌else◌}
use Rattle.fi_rules.specs.Value.{Val, Words}
use Rattle.fi_meaning.specs.Calls.{Argument, constant_value}
use Rattle.fi_meaning.specs.Functions.{Function, Filled}

unfoldable pub is_filled : Function → Bool
is_filled (Filled z) = true
is_filled f = false

-- the value that a function takes at a place
unfoldable pub value_at : Function → ℕ → Argument → Val
value_at f zero a = if is_filled f then constant_value a.value a.is_word else a.value
value_at f (suc k) a = constant_value a.value a.is_word

unfoldable pub is_like : Val → Bool
is_like (Words word) = bytes_eq word (codes "like")
is_like v = false
