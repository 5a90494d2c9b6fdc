use Rattle.std.proofs.Common.{◌≡◌, ◌++◌, drop, length, map}
use Rattle.num_type.specs.View.{type_of}
use Rattle.fi_ops.specs.Operations as operations
use Rattle.eval_math.proofs.orders.fi_pair_orders.Given as goal

abbrev pub invariant-loop-p : goal.invariant-loop-p
invariant-loop-p l = record {
  value : l.out.items ++ map (λ p. operations.compared (record { num = type_of l.a; z = p.0 }) (record { num = type_of l.b; z = p.1 })) (drop l.p-index l.met) ≡ map (λ p. operations.compared (record { num = type_of l.a; z = p.0 }) (record { num = type_of l.b; z = p.1 })) l.met;
  many : length l.out.items ≡ l.p-index;
}
