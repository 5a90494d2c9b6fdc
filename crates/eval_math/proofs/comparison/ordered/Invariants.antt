use Rattle.std.proofs.Common.{◌≡◌, ◌++◌, drop, length, map}
use Rattle.eval_math.specs.Orders.{asked}
use Rattle.eval_math.proofs.comparison.ordered.Given as goal

abbrev pub invariant-loop-o : goal.invariant-loop-o
invariant-loop-o l = record {
  value : l.out.items ++ map (asked l.order) (drop l.o-index l.found) ≡ map (asked l.order) l.found;
  many : length l.out.items ≡ l.o-index;
}
