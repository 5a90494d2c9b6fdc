use Rattle.num_type.specs.View.{type_of}
use Rattle.fi_ops.specs.Parts.{plus_or_minus}
use Rattle.fi_ops.specs.View.{element_of}
use Rattle.fi_ops.proofs.Taken.{joined_cast, joined_exact}
use Rattle.fi_ops.proofs.sums.join.Goals as goal

pub returns-then-m-clause-value : goal.returns-then-m-clause-value
returns-then-m-clause-value c = joined_cast (plus_or_minus c.args.minus) c.args.m.now (type_of c.args.t) (element_of c.args.a) (element_of c.args.b) c.join_cast.result.z c.if-m.true c.join_cast.ensures.value

pub returns-else-m-clause-value : goal.returns-else-m-clause-value
returns-else-m-clause-value c = joined_exact (plus_or_minus c.args.minus) c.args.m.now (type_of c.args.t) (element_of c.args.a) (element_of c.args.b) c.join_exact.result.z c.if-m.false c.join_exact.ensures.value
