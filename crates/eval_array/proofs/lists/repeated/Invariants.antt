use Rattle.std.proofs.Common.{◌≡◌, ◌-◌, ◌++◌, map}
use Rattle.fi_values.specs.Elements as elements
use Rattle.eval_array.proofs.lists.repeated.Given as goal

abbrev pub invariant-loop-k : goal.invariant-loop-k
invariant-loop-k g l = l.out.items ++ map (λ j. l.x) (elements.count_from l._k (l.many - l._k)) ≡ map (λ j. l.x) (elements.below l.many)
