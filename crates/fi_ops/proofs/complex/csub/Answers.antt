use Rattle.num_type.specs.View.{type_of}
use Rattle.fi_ops.specs.View.{element_of, complex_of}
use Rattle.fi_ops.proofs.Parts.{subtracted_parts}
use Rattle.fi_ops.proofs.complex.csub.Goals as goal

pub returns : goal.returns
returns c = subtracted_parts c.args.m.now (type_of c.args.t) (complex_of c.args.a) (complex_of c.args.b) (element_of c.real.result) (element_of c.real-2.result) (element_of c.imaginary.result) (element_of c.imaginary-2.result) c.sub-re.result.z c.sub-im.result.z
    c.real.ensures c.real-2.ensures c.imaginary.ensures c.imaginary-2.ensures c.sub-re.ensures.value c.sub-im.ensures.value
