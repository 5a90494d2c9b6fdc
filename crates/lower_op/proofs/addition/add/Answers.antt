use Rattle.num_type.specs.View.{type_of}
use Rattle.lower_op.proofs.Whole.{sum_within}
use Rattle.lower_op.proofs.addition.add.Goals as goal

pub full_sum-requires : goal.full_sum-requires
full_sum-requires c = sum_within c.args.m (type_of c.args.p) (type_of c.args.q) (type_of c.args.t) c.requires.made

pub add_exact-requires-else-m-clause-within : goal.add_exact-requires-else-m-clause-within
add_exact-requires-else-m-clause-within c = sum_within c.args.m (type_of c.args.p) (type_of c.args.q) (type_of c.args.t) c.requires.made
