use Rattle.std.proofs.Common.{◌≡◌, ◌++◌, map, drop, length}
use Rattle.std.specs.Prelude.{All}
use Rattle.num_type.specs.Types.{IsInRange}
use Rattle.num_type.specs.View.{type_of}
use Rattle.eval_bits.specs.Joints.{joined_pair, joint_type}
use Rattle.eval_bits.proofs.joint.each.Given as goal

abbrev pub invariant-loop-x : goal.invariant-loop-x
invariant-loop-x l = record {
  elements : l.out.items ++ map (joined_pair l.joint (type_of l.a) (type_of l.b)) (drop l.x-index l.pairs) ≡ map (joined_pair l.joint (type_of l.a) (type_of l.b)) l.pairs;
  count : length l.out.items ≡ l.x-index;
  inside : All (IsInRange (joint_type l.joint (type_of l.a) (type_of l.b))) l.out.items;
}
