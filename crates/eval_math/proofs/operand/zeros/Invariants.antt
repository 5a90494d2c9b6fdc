use Rattle.std.proofs.Common.{◌≡◌, ◌++◌, drop, length, map, pos}
use Rattle.std.specs.List.{All}
use Rattle.num_type.specs.Types.{IsInRange}
use Rattle.num_type.specs.View.{type_of}
use Rattle.eval_math.proofs.operand.zeros.Given as goal

abbrev pub invariant-loop-k : goal.invariant-loop-k
invariant-loop-k l = record {
  value : l.out.items ++ map (λ x. pos 0) (drop l.k l.parts) ≡ map (λ x. pos 0) l.parts;
  many : length l.out.items ≡ l.k;
  inside : All (IsInRange (type_of l.fn.t)) l.out.items;
}
