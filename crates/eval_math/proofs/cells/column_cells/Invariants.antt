use Rattle.std.proofs.Common.{◌≡◌, ◌-◌, ◌++◌, map}
use Rattle.fi_values.specs.Elements.{below, count_from}
use Rattle.eval_math.proofs.cells.column_cells.Given as goal

abbrev pub invariant-loop-i : goal.invariant-loop-i
invariant-loop-i l = l.out.items ++ map (λ i. (i, l.j)) (count_from l.i (l.fn.rows - l.i)) ≡ map (λ i. (i, l.j)) (below l.fn.rows)
