use Rattle.num_type.specs.View.{type_of}
use Rattle.eval_array.proofs.Joined.{picked_inside}
use Rattle.eval_array.proofs.rearranged.rearranged_fi.Goals as goal

pub real_fi-requires-clause-in_range : goal.real_fi-requires-clause-in_range
real_fi-requires-clause-in_range c =
    picked_inside (type_of c.args.v.now.num) c.zero-nought.result c.as_slice.result.now c.args.v.now.re.items c.args.places.now c.in_ok-re.re.items c.as_slice.ensures.value c.zero-nought.ensures c.in_ok-re.ensures c.args.v.now.real_in_range

pub complex_fi-requires-clause-real_in_range : goal.complex_fi-requires-clause-real_in_range
complex_fi-requires-clause-real_in_range c =
    picked_inside (type_of c.args.v.now.num) c.zero-nought.result c.as_slice.result.now c.args.v.now.re.items c.args.places.now c.in_ok-re.re.items c.as_slice.ensures.value c.zero-nought.ensures c.in_ok-re.ensures c.args.v.now.real_in_range

pub complex_fi-requires-clause-imaginary_in_range : goal.complex_fi-requires-clause-imaginary_in_range
complex_fi-requires-clause-imaginary_in_range c =
    picked_inside (type_of c.args.v.now.num) c.zero-nought.result c.as_slice-in-Some.result.now c.in-Some.parts.items c.args.places.now c.in_ok-im-in-Some.im.items c.as_slice-in-Some.ensures.value c.zero-nought.ensures c.in_ok-im-in-Some.ensures
    (c.args.v.now.imaginary_in_range c.in-Some.parts c.in-Some.is)
