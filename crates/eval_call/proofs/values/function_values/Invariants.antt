use Rattle.std.proofs.Common.{◌≡◌, map, take}
use Rattle.fi_meaning.specs.Calls.{function_values}
use Rattle.eval_value.specs.View.{value_view}
use Rattle.eval_call.specs.View.{argument_view, function_view}
use Rattle.eval_call.proofs.values.function_values.Given as goal

abbrev pub invariant-loop-k : goal.invariant-loop-k
invariant-loop-k l = map value_view l.values.items ≡ take l.k (function_values (function_view l.f) (map argument_view l.args))
