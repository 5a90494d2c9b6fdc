use Rattle.std.proofs.Common.{◌≡◌, ◌++◌, map, drop}
use Rattle.std.specs.Prelude.{All}
use Rattle.num_type.specs.Types.{IsInRange}
use Rattle.num_type.specs.View.{type_of}
use Rattle.fi_eval.specs.Calls as calls
use Rattle.eval_array.proofs.taken.all_taken.Given as goal

abbrev pub invariant-loop-z : goal.invariant-loop-z
invariant-loop-z l = record {
  value : l.out.items ++ map (λ y. calls.taken (type_of l.num) l.math y (type_of l.from).fraction) (drop l.z-index l.all) ≡ map (λ y. calls.taken (type_of l.num) l.math y (type_of l.from).fraction) l.all;
  inside : All (IsInRange (type_of l.num)) l.out.items;
}
