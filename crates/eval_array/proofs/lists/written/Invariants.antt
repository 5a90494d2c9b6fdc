use Rattle.std.proofs.Common.{◌≡◌, drop}
use Rattle.fi_values.specs.Elements as elements
use Rattle.eval_array.proofs.lists.written.Given as goal

abbrev pub invariant-loop-k : goal.invariant-loop-k
invariant-loop-k g l = elements.written l.out.items (drop l.k l.places) (drop l.k l.values) ≡ elements.written l.all l.places l.values
