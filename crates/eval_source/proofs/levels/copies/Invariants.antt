use Rattle.std.proofs.Common.{◌≡◌, ◌++◌, map, drop}
use Rattle.eval_value.specs.View.{value_view}
use Rattle.eval_source.proofs.levels.copies.Given as goal

abbrev pub invariant-loop-value : goal.invariant-loop-value
invariant-loop-value l = map value_view l.values ≡ map value_view l.out.items ++ map value_view (drop l.value-index l.values)
