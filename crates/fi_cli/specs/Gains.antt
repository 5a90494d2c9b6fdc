-- What a sink gains.
use Rattle.std.specs.Prelude.{◌≡◌, ℕ, List, take, Option}
use Rattle.fic_io.specs.Causes.{RoseByOne, appended}

-- a sink failed: its count of faults rose by one, and it took a part of the bytes from their front
pub record GainsPart (before now : ℕ) (old new : Option (List ℕ)) (bytes : List ℕ) : Type 0 where
  pub count : ℕ
  pub taken : new ≡ appended old (take count bytes)
  pub rose : RoseByOne before now
