use Rattle.std.proofs.Common.{◌≡◌, ◌<◌, ◌≤◌, ◌+◌, sym, subst, ◌∙◌, arith}
use Rattle.std.specs.Prelude.{All}
use Rattle.num_type.specs.Types.{NumericType, IsInRange}
use Rattle.num_type.specs.View.{type_of}
use Rattle.fi_ops.specs.Bits.{word_type}
use Rattle.fi_eval.specs.Operators.{pairwise}
use Rattle.eval_value.specs.View.{shape_view}
use Rattle.eval_bits.specs.Joints.{joined, joint_type}
use Rattle.eval_bits.specs.declared.joint.Joint.TheVariants as joint
use Rattle.eval_bits.proofs.Joined.{fis_put, fis_of_many_bits, fis_of_extents}
use Rattle.eval_bits.proofs.concatenation.fis_concatenated.Goals as goal

pub returns-then-word-gt-WORD_MAX : goal.returns-then-word-gt-WORD_MAX
returns-then-word-gt-WORD_MAX c = fis_of_many_bits c.args.a.now c.args.b.now c.requires.left c.requires.right (omega arith)

pub invariant_of-result-clause-real_in_range : goal.invariant_of-result-clause-real_in_range
unfolding joint_type
invariant_of-result-clause-real_in_range c =
    let e : type_of c.bits_type.result ≡ word_type (c.args.a.now.num.word + c.args.b.now.num.word) = c.bits_type.ensures ∙ (λ i. word_type (c.word.ensures.value i + c.word-2.ensures.value i)) in
    subst (λ (t : NumericType). All (IsInRange t) c.in_ok-re-in-Some.re.items) (sym e) c.in_ok-re-in-Some.ensures.inside

pub returns-in-None : goal.returns-in-None
returns-in-None c = fis_of_extents c.args.a.now c.args.b.now c.requires.left c.requires.right (omega arith) (sym c.in-None.ensures.value)

pub returns-in_ok-re-in-Some : goal.returns-in_ok-re-in-Some
returns-in_ok-re-in-Some c =
    let e : type_of c.bits_type.result ≡ word_type (c.args.a.now.num.word + c.args.b.now.num.word) = c.bits_type.ensures ∙ (λ i. word_type (c.word.ensures.value i + c.word-2.ensures.value i)) in
    fis_put c.args.a.now c.args.b.now (shape_view c.in-Some.shape) (type_of c.bits_type.result) c.in_ok-re-in-Some.re.items c.requires.left c.requires.right (omega arith) (sym c.in-Some.ensures.value) e
    (c.in_ok-re-in-Some.ensures.elements ∙ (λ i. pairwise (joined joint.Concatenated (type_of c.args.a.now.num) (type_of c.args.b.now.num)) (c.as_slice.ensures.value i) (c.as_slice-in-Some.ensures.value i)))
