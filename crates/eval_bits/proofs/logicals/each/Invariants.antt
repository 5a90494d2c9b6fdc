use Rattle.std.proofs.Common.{◌≡◌, ◌++◌, map, drop, length}
use Rattle.eval_bits.specs.Joints.{connected_pair}
use Rattle.eval_bits.proofs.logicals.each.Given as goal

abbrev pub invariant-loop-b : goal.invariant-loop-b
invariant-loop-b l = record {
  elements : l.out.items ++ map (connected_pair l.op) (drop l.b-index l.pairs) ≡ map (connected_pair l.op) l.pairs;
  count : length l.out.items ≡ l.b-index;
}
