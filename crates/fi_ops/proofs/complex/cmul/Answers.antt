use Rattle.num_type.specs.View.{type_of}
use Rattle.fi_ops.proofs.Parts.{complex_inside, complex_has_product}
use Rattle.fi_ops.proofs.complex.cmul.Goals as goal

pub cmul_in-requires-clause-sum : goal.cmul_in-requires-clause-sum
cmul_in-requires-clause-sum c = complex_inside c.args.m.now (type_of c.args.a.num) (type_of c.args.b.num) (type_of c.in-Ok.p) (type_of c.args.t) c.in-Ok.ensures c.requires

pub unreachable-requires : goal.unreachable-requires
unreachable-requires c = complex_has_product c.args.m.now (type_of c.args.a.num) (type_of c.args.b.num) (type_of c.args.t) c.in-Err.field-0 c.in-Err.ensures c.requires
