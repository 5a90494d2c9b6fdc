use Rattle.std.proofs.Common.{◌≡◌, ◌-◌, ◌++◌}
use Rattle.fi_values.specs.Elements as elements
use Rattle.eval_array.proofs.places.counted.Given as goal

abbrev pub invariant-loop-k : goal.invariant-loop-k
invariant-loop-k l = l.out.items ++ elements.count_from l.k (l.many - l.k) ≡ elements.below l.many
