use Rattle.std.proofs.Common.{◌≡◌, ◌++◌, map, drop, Some}
use Rattle.fi_rules.specs.Options.{and_then}
use Rattle.fi_values.specs.Brackets.{row_values}
use Rattle.eval_value.specs.View.{row_view, value_view}
use Rattle.eval_array.proofs.brackets.bracket.Given as goal

abbrev pub invariant-loop-k : goal.invariant-loop-k
invariant-loop-k l = and_then (row_values (map row_view (drop l.k l.rows))) (λ vs. Some (map value_view l.values.items ++ vs)) ≡ row_values (map row_view l.rows)
