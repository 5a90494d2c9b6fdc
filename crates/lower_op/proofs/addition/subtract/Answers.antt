use Rattle.num_type.specs.View.{type_of}
use Rattle.lower_op.proofs.Whole.{difference_within}
use Rattle.lower_op.proofs.addition.subtract.Goals as goal

pub subtract_exact-requires-clause-within : goal.subtract_exact-requires-clause-within
subtract_exact-requires-clause-within c = difference_within c.args.m (type_of c.args.p) (type_of c.args.q) (type_of c.args.t) c.requires.made
