use Rattle.std.proofs.Common.{◌≡◌, ◌++◌, drop, length, map}
use Rattle.eval_math.proofs.elements.each_with_one.Given as goal

abbrev pub invariant-loop-x : goal.invariant-loop-x
invariant-loop-x g l = record {
  value : l.out.items ++ map (λ x. (x, l.y)) (drop l.x-index l.xs) ≡ map (λ x. (x, l.y)) l.xs;
  many : length l.out.items ≡ l.x-index;
}
