use Rattle.num_type.specs.View.{type_of}
use Rattle.fi_ops.specs.View.{element_of, complex_of}
use Rattle.fi_ops.proofs.Parts.{summed_parts}
use Rattle.fi_complex.proofs.sums.caccumulate.Goals as goal

pub returns : goal.returns
returns c =
    summed_parts c.args.m.now (type_of c.args.t) (complex_of c.args.acc) (complex_of c.args.a) (element_of c.real_part-acc_real.result) (element_of c.real_part-real.result) (element_of c.imaginary_part-acc_imaginary.result) (element_of c.imaginary_part-imaginary.result) c.accumulate-re.result.z c.accumulate-im.result.z
    c.real_part-acc_real.ensures.whole c.real_part-real.ensures.whole c.imaginary_part-acc_imaginary.ensures.whole c.imaginary_part-imaginary.ensures.whole c.accumulate-re.ensures.value c.accumulate-im.ensures.value
