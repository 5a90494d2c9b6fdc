use Rattle.std.proofs.Common.{◌≡◌, ◌++◌, map, drop}
use Rattle.fi_meaning.specs.Calls as calls
use Rattle.eval_value.specs.View.{value_view}
use Rattle.eval_call.specs.View.{argument_view}
use Rattle.eval_source.proofs.leaves.values_of.Given as goal

abbrev pub invariant-loop-arg : goal.invariant-loop-arg
invariant-loop-arg l = calls.values_of (map argument_view l.args) ≡ map value_view l.values.items ++ calls.values_of (map argument_view (drop l.arg-index l.args))
