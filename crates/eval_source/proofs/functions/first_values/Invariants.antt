use Rattle.std.proofs.Common.{◌≡◌, ◌++◌, ◌-◌, drop, map}
use Rattle.fi_rules.specs.Options.{◌|>◌}
use Rattle.std.specs.Prelude.{Some}
use Rattle.fi_meaning.specs.Meaning as functions
use Rattle.eval_value.specs.View.{value_view}
use Rattle.eval_source.proofs.functions.first_values.Given as goal

abbrev pub invariant-loop-k : goal.invariant-loop-k
invariant-loop-k l = functions.first_outputs l.wanted (map value_view l.values) ≡ (functions.first_outputs (l.wanted - l.k) (map value_view (drop l.k l.values)) |> (λ vs. Some (map value_view l.first.items ++ vs)))
