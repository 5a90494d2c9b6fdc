use Rattle.std.proofs.Common.{◌≡◌, map, take}
use Rattle.fi_rules.specs.View.{ty_view}
use Rattle.fi_meaning.specs.Calls.{takes}
use Rattle.eval_call.specs.Represented.{represented_types}
use Rattle.eval_call.specs.View.{argument_view}
use Rattle.eval_call.proofs.types.argument_types.Given as goal

abbrev pub invariant-loop-k : goal.invariant-loop-k
invariant-loop-k l = map ty_view l.types.items ≡ take l.k (represented_types (takes l.b) (map argument_view l.args))
