use Rattle.std.proofs.Common.{◌≡◌, ◌-◌, ◌++◌, map}
use Rattle.std.specs.Prelude.{flat_map}
use Rattle.shape_rules.specs.Shapes.{columns_of, rows_of}
use Rattle.fi_values.specs.Elements.{below, count_from}
use Rattle.eval_math.specs.Matrices.{cells}
use Rattle.eval_math.proofs.cells.cells.Given as goal

abbrev pub invariant-loop-j : goal.invariant-loop-j
invariant-loop-j l = l.out.items ++ flat_map (λ j. map (λ i. (i, j)) (below (rows_of l.fn.shape))) (count_from l.j (columns_of l.fn.shape - l.j)) ≡ cells (rows_of l.fn.shape) (columns_of l.fn.shape)
