use Rattle.std.proofs.Common.{◌≡◌, ◌++◌, drop}
use Rattle.fi_values.specs.Elements as elements
use Rattle.eval_value.proofs.elements.picked.Given as goal

abbrev pub invariant-loop-k : goal.invariant-loop-k
invariant-loop-k g l = l.out.items ++ elements.picked l.d l.all (drop l.k-index l.places) ≡ elements.picked l.d l.all l.places
