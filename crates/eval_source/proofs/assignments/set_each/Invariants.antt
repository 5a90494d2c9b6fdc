use Rattle.std.proofs.Common.{◌≡◌, map, drop}
use Rattle.fi_meaning.specs.Environment.{under_names}
use Rattle.eval_value.specs.View.{value_view}
use Rattle.eval_source.specs.View.{env_view}
use Rattle.eval_source.proofs.assignments.set_each.Given as goal

abbrev pub invariant-loop-k : goal.invariant-loop-k
invariant-loop-k l =
    under_names l.targets (map value_view l.values) (env_view l.initial.names) ≡ under_names (drop l.k l.targets) (map value_view (drop l.k l.values)) (env_view l.names)
