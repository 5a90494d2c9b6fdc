use Rattle.std.proofs.Common.{◌≡◌, ◌++◌, drop, length, map}
use Rattle.num_type.specs.Constants.{order_of}
use Rattle.num_type.specs.View.{exact_of}
use Rattle.eval_math.proofs.orders.number_pair_orders.Given as goal

abbrev pub invariant-loop-p : goal.invariant-loop-p
invariant-loop-p l = record {
  value : l.out.items ++ map (λ p. order_of (exact_of p.0) (exact_of p.1)) (drop l.p-index l.met) ≡ map (λ p. order_of (exact_of p.0) (exact_of p.1)) l.met;
  many : length l.out.items ≡ l.p-index;
}
