-- An int64_t where there is one.
use Rattle.std.specs.Prelude.{ℕ, ℤ, Option, Some, None}
use Rattle.c_tree.specs.Outcome.{Outcome, Completes, UndefinedAt}
use Rattle.c_tree.specs.Meaning.{Word, Int64}

-- an int64_t; where there is none the token is undefined
abbrev pub given : ℕ → Option ℤ → Outcome Word
given token None = UndefinedAt token
given token (Some z) = Completes (Int64 z)
