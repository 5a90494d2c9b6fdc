use Rattle.num_type.specs.View.{type_of}
use Rattle.fi_ops.specs.Complex.{real_of, imaginary_of}
use Rattle.fi_ops.specs.View.{element_of, complex_of}
use Rattle.fi_ops.proofs.Parts.{sub_from_add, partial_at, multiplied_parts}
use Rattle.fi_ops.proofs.complex.cmul_in.Goals as goal

pub sub-re-requires : goal.sub-re-requires
sub-re-requires c = rw (c.part-reals.ensures.num, c.part-imaginaries.ensures.num) (sub_from_add c.args.m.now (type_of c.args.p) (type_of c.args.p) (type_of c.args.t) c.requires.sum)

pub returns : goal.returns
returns c =
    multiplied_parts c.args.m.now (type_of c.args.p) (type_of c.args.t) (complex_of c.args.a.now) (complex_of c.args.b.now)
    (element_of c.part-reals.result) (element_of c.part-imaginaries.result) (element_of c.part-left.result) (element_of c.part-right.result) c.sub-re.result.z c.add-im.result.z
    (partial_at c.args.m.now (type_of c.args.p) (element_of c.real.result) (real_of (complex_of c.args.a.now)) (element_of c.real-2.result) (real_of (complex_of c.args.b.now)) (element_of c.part-reals.result) c.real.ensures c.real-2.ensures c.part-reals.ensures.whole)
    (partial_at c.args.m.now (type_of c.args.p) (element_of c.imaginary.result) (imaginary_of (complex_of c.args.a.now)) (element_of c.imaginary-2.result) (imaginary_of (complex_of c.args.b.now)) (element_of c.part-imaginaries.result) c.imaginary.ensures c.imaginary-2.ensures c.part-imaginaries.ensures.whole)
    (partial_at c.args.m.now (type_of c.args.p) (element_of c.real-3.result) (real_of (complex_of c.args.a.now)) (element_of c.imaginary-3.result) (imaginary_of (complex_of c.args.b.now)) (element_of c.part-left.result) c.real-3.ensures c.imaginary-3.ensures c.part-left.ensures.whole)
    (partial_at c.args.m.now (type_of c.args.p) (element_of c.imaginary-4.result) (imaginary_of (complex_of c.args.a.now)) (element_of c.real-4.result) (real_of (complex_of c.args.b.now)) (element_of c.part-right.result) c.imaginary-4.ensures c.real-4.ensures c.part-right.ensures.whole)
    c.sub-re.ensures.value c.add-im.ensures.value
