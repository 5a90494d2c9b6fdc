use Rattle.std.proofs.Common.{◌≡◌, ◌++◌, drop, length, map}
use Rattle.eval_math.proofs.elements.one_with_each.Given as goal

abbrev pub invariant-loop-y : goal.invariant-loop-y
invariant-loop-y g l = record {
  value : l.out.items ++ map (λ y. (l.x, y)) (drop l.y-index l.ys) ≡ map (λ y. (l.x, y)) l.ys;
  many : length l.out.items ≡ l.y-index;
}
