use Rattle.fi_ops.specs.View.{element_of, complex_of}
use Rattle.fi_ops.proofs.Parts.{conjugated_parts}
use Rattle.fi_ops.proofs.complex.conj.Goals as goal

pub returns : goal.returns
returns c = conjugated_parts c.args.m.now (complex_of c.args.a) (element_of c.imaginary.result) c.neg-im.result.z c.imaginary.ensures c.neg-im.ensures.value
