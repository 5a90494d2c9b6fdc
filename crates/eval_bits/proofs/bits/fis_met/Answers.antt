use Rattle.std.proofs.Common.{sym, ◌∙◌}
use Rattle.num_type.specs.View.{type_of}
use Rattle.fi_eval.specs.Operators.{pairwise}
use Rattle.eval_value.specs.View.{shape_view}
use Rattle.eval_bits.specs.Joints.{joined, joint_type}
use Rattle.eval_bits.specs.declared.joint.Joint.TheVariants as joint
use Rattle.eval_bits.proofs.Joined.{fis_met, fis_of_types, fis_of_shapes, fis_of_fimaths}
use Rattle.eval_bits.proofs.bits.fis_met.Goals as goal

pub returns-then-not-is_same_type : goal.returns-then-not-is_same_type
returns-then-not-is_same_type c = fis_of_types c.args.op c.args.a.now c.args.b.now c.requires.left c.requires.right (sym c.is_same_type.ensures.value ∙ c.if-not-is_same_type.true)

pub invariant_of-result-clause-real_in_range : goal.invariant_of-result-clause-real_in_range
unfolding joint_type
invariant_of-result-clause-real_in_range c = c.in_ok-re-in-Some-governing.ensures.inside

pub returns-in-None : goal.returns-in-None
returns-in-None c =
    fis_of_shapes c.args.op c.args.a.now c.args.b.now c.requires.left c.requires.right (sym c.is_same_type.ensures.value ∙ c.if-not-is_same_type.false) (sym c.in-None.ensures.value)

pub returns-in-None-governing : goal.returns-in-None-governing
returns-in-None-governing c =
    fis_of_fimaths c.args.op c.args.a.now c.args.b.now (shape_view c.in-Some.shape) c.requires.left c.requires.right (sym c.is_same_type.ensures.value ∙ c.if-not-is_same_type.false) (sym c.in-Some.ensures.value) (sym c.in-None-governing.ensures)

pub returns-in_ok-re-in-Some-governing : goal.returns-in_ok-re-in-Some-governing
returns-in_ok-re-in-Some-governing c =
    fis_met c.args.op c.args.a.now c.args.b.now (shape_view c.in-Some.shape) c.in-Some-governing.g c.in_ok-re-in-Some-governing.re.items c.requires.left c.requires.right (sym c.is_same_type.ensures.value ∙ c.if-not-is_same_type.false) (sym c.in-Some.ensures.value) (sym c.in-Some-governing.ensures)
    (c.in_ok-re-in-Some-governing.ensures.elements
    ∙ (λ i. pairwise (joined (joint.Met c.args.op) (type_of c.args.a.now.num) (type_of c.args.a.now.num)) (c.as_slice.ensures.value i) (c.as_slice-in-Some-governing.ensures.value i)))
