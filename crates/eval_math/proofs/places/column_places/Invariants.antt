use Rattle.std.proofs.Common.{◌≡◌, ◌+◌, ◌-◌, ◌*◌, ◌++◌, map}
use Rattle.shape_rules.specs.Shapes.{rows_of}
use Rattle.fi_values.specs.Elements.{count_from}
use Rattle.fi_values.specs.Sums as sums
use Rattle.eval_value.specs.View.{shape_view}
use Rattle.eval_math.proofs.places.column_places.Given as goal

abbrev pub invariant-loop-i : goal.invariant-loop-i
invariant-loop-i l = l.out.items ++ map (λ i. i + rows_of l.fn.shape * l.column) (count_from l.i (rows_of l.fn.shape - l.i)) ≡ sums.column_places (shape_view l.fn.shape) l.column
