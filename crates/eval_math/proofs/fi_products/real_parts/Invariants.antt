use Rattle.std.proofs.Common.{◌≡◌, ◌++◌, drop, length, map}
use Rattle.std.specs.List.{All}
use Rattle.num_type.specs.Types.{IsInRange}
use Rattle.num_type.specs.View.{type_of}
use Rattle.eval_math.proofs.fi_products.real_parts.Given as goal

abbrev pub invariant-loop-z : goal.invariant-loop-z
invariant-loop-z l = record {
  value : l.out.items ++ map (λ z. z.0) (drop l.z-index l.zs) ≡ map (λ z. z.0) l.zs;
  many : length l.out.items ≡ l.z-index;
  inside : All (IsInRange (type_of l.fn.t)) l.out.items;
}
