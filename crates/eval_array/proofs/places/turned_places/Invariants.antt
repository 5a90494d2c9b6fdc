use Rattle.std.proofs.Common.{◌≡◌, ◌+◌, ◌-◌, ◌*◌, ◌++◌, map}
use Rattle.std.specs.List.{flat_map}
use Rattle.fi_values.specs.Elements as elements
use Rattle.eval_array.proofs.places.turned_places.Given as goal

abbrev pub invariant-loop-i : goal.invariant-loop-i
invariant-loop-i l =
    l.out.items ++ flat_map (λ i. map (λ j. i + l.rows * j) (elements.below l.columns)) (elements.count_from l.i (l.rows - l.i))
    ≡ flat_map (λ i. map (λ j. i + l.rows * j) (elements.below l.columns)) (elements.below l.rows)
