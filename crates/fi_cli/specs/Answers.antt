-- When each status has to come, where no shelf or sink fails. Want of memory is the free answer.
--
-- | Status | Has to come |
-- |---|---|
-- | 0 | the words have a form, the shelf tells the files, and nothing refuses them (carries_out); or 4 |
-- | 1 | the words have a form, the shelf tells the files, and something refuses them (refuses); or 4 |
-- | 2 | never: only where the shelf failed |
-- | 3 | never: only where a sink failed |
-- | 4 | never: it is free |
-- | 5 | the words have no form (forms); or 4 |
use Rattle.std.specs.Prelude.{◌≡◌, ◌⊎◌, ℕ, List}
use Rattle.fic_io.specs.Causes.{Rose}
use Rattle.fi_cli.specs.Forms.{Command, IsForm, IsBadAt}
use Rattle.fi_cli.specs.Commands.{Bad, files, IsRefusedBy, AreContents}
use Rattle.fi_cli.specs.Causes.{ShelfSide, SinkSide, AsksFor}

-- the shelf tells the files of a command, and of their contents this holds
pub record Tells (c : Command) (shelf : ShelfSide) (P : List (List ℕ) → Type 0) : Type 0 where
  pub contents : List (List ℕ)
  pub told : AreContents shelf.told (files c) contents
  pub holds : P contents

-- the words have a form, and of what the shelf tells in that form this holds
pub record Serves (words : List (List ℕ)) (shelf : ShelfSide) (P : Command → List (List ℕ) → Type 0) : Type 0 where
  pub form : AsksFor words (λ c. Unit {0})
  pub told : (c : Command) → IsForm c words → Tells c shelf (P c)

-- no shelf or sink failed in the call
pub record Whole (shelf : ShelfSide) (out err : SinkSide) : Type 0 where
  pub read : Rose shelf.before shelf.now → ⊥
  pub written : Rose out.before out.now → ⊥
  pub told : Rose err.before err.now → ⊥

-- a status, or that of want of memory
abbrev pub IsOr4 : ℕ → ℕ → Type 0
IsOr4 status wanted = (status ≡ wanted) ⊎ (status ≡ 4)

pub record Answers (status : ℕ) (words : List (List ℕ)) (shelf : ShelfSide) (out err : SinkSide) : Type 0 where
  -- what isn't refused is carried out
  pub carries_out : Whole shelf out err → Serves words shelf (λ c contents. (bad : Bad) → IsRefusedBy bad c contents → ⊥) → IsOr4 status 0
  -- what is refused isn't
  pub refuses : Whole shelf out err → Serves words shelf (λ c contents. (bad : Bad) × IsRefusedBy bad c contents) → IsOr4 status 1
  -- words without a form aren't carried out
  pub forms : Whole shelf out err → (n : ℕ) → IsBadAt words n → IsOr4 status 5
