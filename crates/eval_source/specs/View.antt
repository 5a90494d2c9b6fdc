-- What scopes and variables of the code stand for.
use Rattle.std.specs.Prelude.{ℕ, List, option_map, bytes_eq}
use Rattle.std.specs.HashMap.{get_by}
use Rattle.fic_base.specs.declared.place.Place.{Place}
use Rattle.fi_rules.specs.Value.{Val}
use Rattle.fi_eval.specs.Outcome.{Got}
use Rattle.walk_scope.specs.NameSets.{names_in}
use Rattle.fi_meaning.specs.Environment.{Env}
use Rattle.fi_meaning.specs.Expressions.{Context}
use Rattle.eval_value.specs.View.{value_view}
use Rattle.eval_source.specs.declared.scope.Scope.{Scope}
use Rattle.eval_source.specs.declared.variables.Variables.{Variables}

-- what calls of the file's functions do
abbrev pub Call : Type 0
Call = Place → List ℕ → List Val → ℕ → Got Place (List Val)

-- what stays the same over a body, where calls do this
abbrev pub context_of : Scope → Call → Context
context_of s call = record { variables = names_in s.variables.now; functions = names_in s.functions.now; call = call; in_loop = s.in_loop }

-- the value of each variable that has one
abbrev pub env_view : Variables → Env
env_view v name = option_map value_view (get_by (λ k. bytes_eq name k.items) v.table)
