use Rattle.std.proofs.Common.{◌≡◌, ◌++◌, drop, length}
use Rattle.fi_eval.specs.Operators.{pairwise}
use Rattle.eval_bits.specs.Joints.{beside}
use Rattle.eval_bits.proofs.pair.side_by_side.Given as goal

abbrev pub invariant-loop-k : goal.invariant-loop-k
invariant-loop-k g l = record {
  pairs : l.out.items ++ pairwise beside (drop l.k l.xs) (drop l.k l.ys) ≡ pairwise beside l.xs l.ys;
  count : length l.out.items ≡ l.k;
}
