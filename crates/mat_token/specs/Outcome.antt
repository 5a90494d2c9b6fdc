-- The token list of a source, or its refusal.
use Rattle.std.specs.Prelude.{◌≡◌, ℕ, ◌<◌, ◌≤◌, List, [], length, false, codes}
use Rattle.fic_base.specs.declared.code.Code.TheVariants.{Limit}
use Rattle.fic_base.specs.declared.refusal.Refusal.{Refusal}
use Rattle.mat_token.specs.Reads.{Outcome, Gives, Refuses, ReadsWhole, first_place}
use Rattle.mat_token.specs.Brackets.{separated}

-- the refusal of a source of more than 1,048,576 bytes
abbrev pub too_long : Refusal
too_long = record { code = Limit; place = first_place; shown = codes "1048576" }

-- an outcome with the separators of brackets put in
abbrev pub with_separators : List ℕ → Outcome → Outcome
with_separators bytes (Gives ts) = Gives (separated bytes [] false ts)
with_separators bytes (Refuses r) = Refuses r

-- what the bytes of a source give
pub record IsOutcome (bytes : List ℕ) (o : Outcome) : Type 0 where
  pub long : 1048576 < length bytes → o ≡ Refuses too_long
  pub short : length bytes ≤ 1048576 → (raw : Outcome) × ReadsWhole bytes raw × (o ≡ with_separators bytes raw)
