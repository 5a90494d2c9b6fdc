use Rattle.fi_ops.specs.View.{element_of}
use Rattle.num_type.specs.View.{type_of}
use Rattle.fi_complex.proofs.Ranges.{zero_inside, widened_is}
use Rattle.fi_complex.proofs.parts.as_complex.Goals as goal

pub invariant_of-result : goal.invariant_of-result
invariant_of-result c = record { re_in_range = c.args.a.in_range; im_in_range = zero_inside (type_of c.args.a.num) c.of.result c.of.ensures }

pub returns : goal.returns
returns c = widened_is (element_of c.args.a) c.of.result c.of.ensures
