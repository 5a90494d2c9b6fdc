-- What names stand for, and where statements lead.
use Rattle.std.specs.Prelude.{ℕ, if◌then◌else◌, List, [], ◌∷◌, Option, Some, None, bytes_eq}
use Rattle.fic_base.specs.declared.place.Place.{Place}
use Rattle.mat_ast.specs.declared.tree.Ident.{Ident}
use Rattle.fi_rules.specs.Value.{Val}
use Rattle.fi_eval.specs.Outcome.{Got, Gives, or_wrong}

-- the value of each variable that has one
abbrev pub Env : Type 0
Env = List ℕ → Option Val

abbrev pub no_values : Env
no_values name = None

abbrev pub assigned : List ℕ → Val → Env → Env
assigned name v env other = if bytes_eq name other then Some v else env other

abbrev pub forgotten : List ℕ → Env → Env
forgotten name env other = if bytes_eq name other then None else env other

abbrev pub variable : Env → Place → List ℕ → Got Place Val
variable env at name = or_wrong at (env name)

-- values under names, from left to right; none where their numbers differ
abbrev pub under_names : List Ident → List Val → Env → Option Env
under_names [] [] env = Some env
under_names (name ∷ names) (v ∷ vs) env = under_names names vs (assigned name.text v env)
under_names names vs env = None

-- where a statement leads: on, out of a loop, or to its next turn. What follows serves every type W of wrong places
pub data Flow : Type 0 where
  Went : Env → Flow
  Broke : Env → Flow
  Continued : Env → Flow

abbrev pub env_of : Flow → Env
env_of (Went env) = env
env_of (Broke env) = env
env_of (Continued env) = env

-- on to the next statement, where the one before has not left the block
unfoldable pub then_do : {W : Type 0} → Flow → (Env → Got W Flow) → Got W Flow
then_do (Went env) next = next env
then_do (Broke env) next = Gives (Broke env)
then_do (Continued env) next = Gives (Continued env)

-- on to the next turn of a loop, or out of it
unfoldable pub turned : {W : Type 0} → Flow → (Env → Got W Flow) → Got W Flow
turned (Went env) next = next env
turned (Continued env) next = next env
turned (Broke env) next = Gives (Went env)

-- a loop variable is known in the body alone
unfoldable pub behind_loop : {W : Type 0} → List ℕ → Flow → Got W Flow
behind_loop name (Went env) = Gives (Went (forgotten name env))
behind_loop name (Broke env) = Gives (Broke (forgotten name env))
behind_loop name (Continued env) = Gives (Continued (forgotten name env))
