use Rattle.num_type.specs.View.{type_of}
use Rattle.fi_ops.specs.View.{element_of, complex_of}
use Rattle.fi_bits.proofs.Sides.{each_slices, same_types, across}
use Rattle.fi_bits.proofs.complex.cbit_slice.Goals as goal

pub returns : goal.returns
returns c =
    each_slices c.args.left c.args.right (complex_of c.args.a) (element_of c.real_part-real.result) (element_of c.imaginary_part-imaginary.result) (element_of c.bit_slice-re.result) (element_of c.bit_slice-im.result)
    c.real_part-real.ensures.whole c.imaginary_part-imaginary.ensures.whole c.bit_slice-re.ensures c.bit_slice-im.ensures

pub invariant_of-result : goal.invariant_of-result
invariant_of-result c =
    let e = same_types c.args.left c.args.right (complex_of c.args.a) (element_of c.real_part-real.result) (element_of c.imaginary_part-imaginary.result) (element_of c.bit_slice-re.result) (element_of c.bit_slice-im.result)
    c.real_part-real.ensures.whole c.imaginary_part-imaginary.ensures.whole c.bit_slice-re.ensures c.bit_slice-im.ensures in
    record { re_in_range = c.bit_slice-re.result.in_range; im_in_range = across (type_of c.bit_slice-re.result.num) (type_of c.bit_slice-im.result.num) c.bit_slice-im.result.z e c.bit_slice-im.result.in_range }
