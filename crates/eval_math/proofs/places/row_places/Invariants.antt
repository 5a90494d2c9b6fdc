use Rattle.std.proofs.Common.{◌≡◌, ◌+◌, ◌-◌, ◌*◌, ◌++◌, map}
use Rattle.shape_rules.specs.Shapes.{columns_of, rows_of}
use Rattle.fi_values.specs.Elements.{count_from}
use Rattle.fi_values.specs.Sums as sums
use Rattle.eval_value.specs.View.{shape_view}
use Rattle.eval_math.proofs.places.row_places.Given as goal

abbrev pub invariant-loop-j : goal.invariant-loop-j
invariant-loop-j l = l.out.items ++ map (λ j. l.row + rows_of l.fn.shape * j) (count_from l.j (columns_of l.fn.shape - l.j)) ≡ sums.row_places (shape_view l.fn.shape) l.row
