use Rattle.num_type.specs.View.{type_of}
use Rattle.eval_array.proofs.Joined.{noughts_inside}
use Rattle.eval_array.proofs.queries.imaginary_part_of.Goals as goal

pub real_fi-requires-clause-in_range : goal.real_fi-requires-clause-in_range
real_fi-requires-clause-in_range c = noughts_inside (type_of c.args.v.now.num) c.in_ok-im-in-None.im.items c.as_slice.result.now c.in_ok-im-in-None.ensures
