use Rattle.std.proofs.Common.{ap}
use Rattle.fi_ops.specs.Bits.{concatenated}
use Rattle.fi_ops.specs.Elements.{Element}
use Rattle.eval_bits.specs.Joints.{joint_type}
use Rattle.eval_bits.proofs.joint.join.Goals as goal

pub returns-in-Some-clause-num : goal.returns-in-Some-clause-num
unfolding concatenated joint_type
returns-in-Some-clause-num c = rw c.in-Concatenated.is (ap (λ (x : Element). x.num) c.in-Some.ensures.value)
