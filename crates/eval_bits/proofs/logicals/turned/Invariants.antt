use Rattle.std.proofs.Common.{◌≡◌, ◌++◌, map, drop, length, not}
use Rattle.eval_bits.proofs.logicals.turned.Given as goal

abbrev pub invariant-loop-b : goal.invariant-loop-b
invariant-loop-b l = record {
  elements : l.out.items ++ map not (drop l.b-index l.truths) ≡ map not l.truths;
  count : length l.out.items ≡ l.b-index;
}
