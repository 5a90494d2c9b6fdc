use Rattle.std.proofs.Common.{◌≡◌, map, drop}
use Rattle.fi_values.specs.Brackets as brackets
use Rattle.eval_value.specs.View.{value_view}
use Rattle.eval_array.specs.Views.{join_view}
use Rattle.eval_array.proofs.brackets.all_joined.Given as goal

abbrev pub invariant-loop-k : goal.invariant-loop-k
invariant-loop-k l =
    brackets.all_joined (join_view l.join) (value_view l.all) (map value_view (drop l.k l.values))
    ≡ brackets.all_joined (join_view l.join) (value_view l.fn.first) (map value_view (drop 1 l.values))
