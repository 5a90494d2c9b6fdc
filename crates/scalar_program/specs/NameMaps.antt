-- What is known of names.
use Rattle.std.specs.Prelude.{ℕ, List, Option, Some, bytes_eq, if◌then◌else◌}

-- a map of names with one more
abbrev pub with_type : {A : Type 0} → (List ℕ → Option A) → List ℕ → A → List ℕ → Option A
with_type names name x other = if bytes_eq name other then Some x else names other
