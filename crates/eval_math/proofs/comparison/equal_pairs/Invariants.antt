use Rattle.std.proofs.Common.{◌≡◌, ◌++◌, drop, length, map}
use Rattle.eval_math.specs.Orders.{paired_equal}
use Rattle.eval_math.proofs.comparison.equal_pairs.Given as goal

abbrev pub invariant-loop-p : goal.invariant-loop-p
invariant-loop-p l = record {
  value : l.out.items ++ map (paired_equal l.same) (drop l.p-index l.met) ≡ map (paired_equal l.same) l.met;
  many : length l.out.items ≡ l.p-index;
}
