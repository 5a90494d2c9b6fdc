use Rattle.num_type.specs.View.{type_of}
use Rattle.fi_math.proofs.Limits.{step_is}
use Rattle.fi_math.proofs.types.stepped_type.Goals as goal

pub returns-in-Ok : goal.returns-in-Ok
returns-in-Ok c = step_is c.args.m.now (type_of c.args.a) (type_of c.args.t) (type_of c.in-Ok.field-0) c.if-m.false c.in-Ok.ensures
