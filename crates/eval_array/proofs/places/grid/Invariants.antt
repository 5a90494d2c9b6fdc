use Rattle.std.proofs.Common.{◌≡◌, ◌+◌, ◌*◌, ◌++◌, map, drop}
use Rattle.std.specs.List.{flat_map}
use Rattle.eval_array.proofs.places.grid.Given as goal

abbrev pub invariant-loop-j : goal.invariant-loop-j
invariant-loop-j l =
    l.out.items ++ flat_map (λ j. map (λ i. i + l.rows * j) l.row_places) (drop l.j-index l.column_places)
    ≡ flat_map (λ j. map (λ i. i + l.rows * j) l.row_places) l.column_places
