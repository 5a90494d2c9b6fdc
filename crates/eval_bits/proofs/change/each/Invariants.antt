use Rattle.std.proofs.Common.{◌≡◌, ◌++◌, map, drop, length}
use Rattle.std.specs.Prelude.{All}
use Rattle.num_type.specs.Types.{IsInRange}
use Rattle.num_type.specs.View.{type_of}
use Rattle.eval_bits.specs.Changes.{applied, target_of}
use Rattle.eval_bits.proofs.change.each.Given as goal

abbrev pub invariant-loop-z : goal.invariant-loop-z
invariant-loop-z l = record {
  elements : l.out.items ++ map (applied l.change (type_of l.num)) (drop l.z-index l.all) ≡ map (applied l.change (type_of l.num)) l.all;
  count : length l.out.items ≡ l.z-index;
  inside : All (IsInRange (target_of l.change (type_of l.num))) l.out.items;
}
