use Rattle.std.proofs.Common.{◌≡◌, ◌++◌, drop, length, map}
use Rattle.std.specs.List.{All}
use Rattle.num_type.specs.Types.{IsInRange}
use Rattle.num_type.specs.View.{type_of}
use Rattle.eval_math.specs.Matrices.{or_nought}
use Rattle.eval_math.proofs.fi_products.imaginary_parts.Given as goal

abbrev pub invariant-loop-z : goal.invariant-loop-z
invariant-loop-z l = record {
  value : l.out.items ++ map (λ z. or_nought z.1) (drop l.z-index l.zs) ≡ map (λ z. or_nought z.1) l.zs;
  many : length l.out.items ≡ l.z-index;
  inside : All (IsInRange (type_of l.fn.t)) l.out.items;
}
