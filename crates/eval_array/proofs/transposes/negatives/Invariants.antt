use Rattle.std.proofs.Common.{◌≡◌, ◌++◌, map, drop}
use Rattle.std.specs.Prelude.{All}
use Rattle.num_type.specs.Types.{IsInRange}
use Rattle.num_type.specs.View.{type_of}
use Rattle.fi_eval.specs.Operators.{Negate, turned_element}
use Rattle.eval_array.proofs.transposes.negatives.Given as goal

abbrev pub invariant-loop-z : goal.invariant-loop-z
invariant-loop-z l = record {
  value : l.out.items ++ map (turned_element Negate l.math (type_of l.num)) (drop l.z-index l.all) ≡ map (turned_element Negate l.math (type_of l.num)) l.all;
  inside : All (IsInRange (type_of l.num)) l.out.items;
}
