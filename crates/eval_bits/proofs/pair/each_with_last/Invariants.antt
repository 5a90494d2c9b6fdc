use Rattle.std.proofs.Common.{◌≡◌, ◌++◌, map, drop, length}
use Rattle.eval_bits.specs.Joints.{beside}
use Rattle.eval_bits.proofs.pair.each_with_last.Given as goal

abbrev pub invariant-loop-x : goal.invariant-loop-x
invariant-loop-x g l = record {
  pairs : l.out.items ++ map (λ x. beside x l.y) (drop l.x-index l.xs) ≡ map (λ x. beside x l.y) l.xs;
  count : length l.out.items ≡ l.x-index;
}
