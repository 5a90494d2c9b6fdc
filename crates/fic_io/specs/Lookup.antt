-- The first entry of a name counts.
use Rattle.std.specs.Prelude.{ℕ, List, Option, Vec, String, string_bytes, bytes_eq, find, option_map}
use Rattle.std.specs.declared.alloc.Global.{Global}

abbrev pub entry_under : List (String Global × Vec ℕ Global) → List ℕ → Option (String Global × Vec ℕ Global)
entry_under fs name = find (λ f. bytes_eq (string_bytes f.0) name) fs

abbrev pub bytes_under : List (String Global × Vec ℕ Global) → List ℕ → Option (List ℕ)
bytes_under fs name = option_map (λ f. f.1.items) (entry_under fs name)
