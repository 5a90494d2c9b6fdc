use Rattle.std.proofs.Common.{◌≡◌, ◌++◌, map, drop, length}
use Rattle.num_type.specs.Constants.{opposite}
use Rattle.num_type.specs.View.{exact_of}
use Rattle.const_eval.proofs.constant.opposites.Given as goal

abbrev pub invariant-loop-part : goal.invariant-loop-part
invariant-loop-part l = record {
  parts : map exact_of l.turned.items ++ map opposite (map exact_of (drop l.part-index l.parts)) ≡ map opposite (map exact_of l.parts);
  count : length l.turned.items ≡ l.part-index;
}
