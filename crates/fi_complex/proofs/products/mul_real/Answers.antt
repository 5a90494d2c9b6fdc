use Rattle.num_type.specs.View.{type_of}
use Rattle.fi_ops.specs.View.{element_of, complex_of}
use Rattle.fi_complex.proofs.Factors.{real_times_parts}
use Rattle.fi_complex.proofs.products.mul_real.Goals as goal

pub returns : goal.returns
returns c =
    real_times_parts c.args.m.now (type_of c.args.t) (element_of c.args.a) (complex_of c.args.b) (element_of c.real_part-real.result) (element_of c.imaginary_part-imaginary.result) c.product-re.result.z c.product-im.result.z
    c.real_part-real.ensures.whole c.imaginary_part-imaginary.ensures.whole c.product-re.ensures.value c.product-im.ensures.value
