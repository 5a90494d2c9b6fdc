use Rattle.std.proofs.Common.{◌≡◌, ◌++◌, drop, length}
use Rattle.eval_math.specs.View.{side_by_side}
use Rattle.eval_math.proofs.elements.each_with_each.Given as goal

abbrev pub invariant-loop-k : goal.invariant-loop-k
invariant-loop-k g l = record {
  value : l.out.items ++ side_by_side (drop l.k l.xs) (drop l.k l.ys) ≡ side_by_side l.xs l.ys;
  many : length l.out.items ≡ l.k;
}
