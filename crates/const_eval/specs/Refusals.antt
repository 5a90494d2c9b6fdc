-- What a call that stops at a refusal tells.
use Rattle.std.specs.Prelude.{◌≡◌, ℕ, List}
use Rattle.fic_base.specs.declared.code.Code.{Code}
use Rattle.fic_base.specs.declared.place.Place.{Place}
use Rattle.fic_base.specs.declared.refusal.Refusal.{Refusal}
use Rattle.num_type.specs.declared.memory.Stop.{Stop}
use Rattle.num_type.specs.declared.memory.Stop.TheVariants.{Refused, Memory}

-- where a call stops at a refusal, this holds of it; where memory is wanting, nothing is said
abbrev pub RefusesOnly : Stop Refusal → (Refusal → Type 0) → Type 0
RefusesOnly (Refused r) P = P r
RefusesOnly Memory P = Unit {0}

-- a refusal with this code, place and shown text
pub record IsRefusal (code : Code) (at : Place) (shown : List ℕ) (r : Refusal) : Type 0 where
  pub code_is : r.code ≡ code
  pub place_is : r.place ≡ at
  pub shown_is : r.shown ≡ shown
