use Rattle.num_type.specs.View.{type_of}
use Rattle.fi_ops.specs.View.{element_of, complex_of}
use Rattle.fi_ops.proofs.Parts.{summed_parts}
use Rattle.fi_ops.proofs.complex.cadd.Goals as goal

pub returns : goal.returns
returns c = summed_parts c.args.m.now (type_of c.args.t) (complex_of c.args.a) (complex_of c.args.b) (element_of c.real.result) (element_of c.real-2.result) (element_of c.imaginary.result) (element_of c.imaginary-2.result) c.add-re.result.z c.add-im.result.z
    c.real.ensures c.real-2.ensures c.imaginary.ensures c.imaginary-2.ensures c.add-re.ensures.value c.add-im.ensures.value
