use Rattle.std.proofs.Common.{◌≡◌, ◌++◌, drop, map}
use Rattle.fi_eval.specs.Outcome.{Gives, ◌>>=◌}
use Rattle.fi_meaning.specs.Meaning as functions
use Rattle.eval_value.specs.View.{value_view}
use Rattle.eval_source.specs.View.{env_view}
use Rattle.eval_source.proofs.functions.entry_outputs.Given as goal

abbrev pub invariant-loop-name : goal.invariant-loop-name
invariant-loop-name l = functions.entry_outputs l.outputs (env_view l.names) ≡ (functions.entry_outputs (drop l.name-index l.outputs) (env_view l.names) >>= (λ vs. Gives (map value_view l.values.items ++ vs)))
