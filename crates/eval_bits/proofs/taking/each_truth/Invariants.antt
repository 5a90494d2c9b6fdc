use Rattle.std.proofs.Common.{◌≡◌, ◌++◌, map, drop, length}
use Rattle.std.specs.Prelude.{All}
use Rattle.num_type.specs.Types.{IsInRange}
use Rattle.num_type.specs.View.{type_of}
use Rattle.eval_bits.specs.Changes.{taken_truth}
use Rattle.eval_bits.proofs.taking.each_truth.Given as goal

abbrev pub invariant-loop-b : goal.invariant-loop-b
invariant-loop-b l = record {
  elements : l.out.items ++ map (taken_truth (type_of l.num) l.math) (drop l.b-index l.all) ≡ map (taken_truth (type_of l.num) l.math) l.all;
  count : length l.out.items ≡ l.b-index;
  inside : All (IsInRange (type_of l.num)) l.out.items;
}
