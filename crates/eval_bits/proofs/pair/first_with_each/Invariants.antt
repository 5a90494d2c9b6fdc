use Rattle.std.proofs.Common.{◌≡◌, ◌++◌, map, drop, length}
use Rattle.eval_bits.specs.Joints.{beside}
use Rattle.eval_bits.proofs.pair.first_with_each.Given as goal

abbrev pub invariant-loop-y : goal.invariant-loop-y
invariant-loop-y g l = record {
  pairs : l.out.items ++ map (beside l.x) (drop l.y-index l.ys) ≡ map (beside l.x) l.ys;
  count : length l.out.items ≡ l.y-index;
}
