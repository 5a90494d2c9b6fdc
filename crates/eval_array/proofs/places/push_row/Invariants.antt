use Rattle.std.proofs.Common.{◌≡◌, ◌+◌, ◌-◌, ◌*◌, ◌++◌, map}
use Rattle.fi_values.specs.Elements as elements
use Rattle.eval_array.proofs.places.push_row.Given as goal

abbrev pub invariant-loop-j : goal.invariant-loop-j
invariant-loop-j l =
    l.out.items ++ map (λ j. l.i + l.rows * j) (elements.count_from l.j (l.columns - l.j))
    ≡ l.initial.out.items ++ map (λ j. l.i + l.rows * j) (elements.below l.columns)
