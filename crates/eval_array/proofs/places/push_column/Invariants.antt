use Rattle.std.proofs.Common.{◌≡◌, ◌+◌, ◌*◌, ◌++◌, map, drop}
use Rattle.eval_array.proofs.places.push_column.Given as goal

abbrev pub invariant-loop-i : goal.invariant-loop-i
invariant-loop-i l =
    l.out.items ++ map (λ i. i + l.rows * l.j) (drop l.i-index l.row_places)
    ≡ l.initial.out.items ++ map (λ i. i + l.rows * l.j) l.row_places
