use Rattle.std.proofs.Common.{sym, subst, ◌∙◌}
use Rattle.num_type.specs.declared.num_type.NumType.{NumType}
use Rattle.fi_ops.specs.View.{element_of, complex_of}
use Rattle.fi_bits.specs.Parts.{CanApply, applied}
use Rattle.fi_bits.proofs.Sides.{each_parts, along}
use Rattle.fi_bits.proofs.complex.both_parts.Goals as goal

pub apply-re-requires : goal.apply-re-requires
apply-re-requires c = subst (λ (n : NumType). CanApply c.args.change n.word) (sym c.real_part-real.ensures.num) c.requires

pub apply-im-requires : goal.apply-im-requires
apply-im-requires c = subst (λ (n : NumType). CanApply c.args.change n.word) (sym c.imaginary_part-imaginary.ensures.num) c.requires

pub returns : goal.returns
returns c =
    each_parts (applied c.args.change) (complex_of c.args.a) (element_of c.real_part-real.result) (element_of c.imaginary_part-imaginary.result) c.apply-re.result.z c.apply-im.result.z
    c.real_part-real.ensures.whole c.imaginary_part-imaginary.ensures.whole c.apply-re.ensures.value c.apply-im.ensures.value

pub invariant_of-result : goal.invariant_of-result
invariant_of-result c = record {
  re_in_range = along c.apply-re.result.num c.args.a.num c.apply-re.result.z (c.apply-re.ensures.num ∙ c.real_part-real.ensures.num) c.apply-re.result.in_range;
  im_in_range = along c.apply-im.result.num c.args.a.num c.apply-im.result.z (c.apply-im.ensures.num ∙ c.imaginary_part-imaginary.ensures.num) c.apply-im.result.in_range;
}
