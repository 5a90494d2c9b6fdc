use Rattle.std.specs.Prelude.{codes}
use Rattle.shape_rules.proofs.Readers.{plain_none, marked, other_bytes}
use Rattle.shape_rules.proofs.declared.read_behind.Goals as goal

pub returns-in-None-read_shape : goal.returns-in-None-read_shape
returns-in-None-read_shape c = plain_none c.args.rest.now (other_bytes c.args.rest.now c.as_slice.result.now (codes "c") c.if-eq.ensures c.as_slice.ensures) c.in-None.ensures c.in-None-read_shape.ensures

pub returns-in-Some : goal.returns-in-Some
returns-in-Some c = marked c.read_complex.result c.args.num c.args.rest.now c.in-Some.text.now c.in-Some.mark.now (other_bytes c.args.rest.now c.as_slice.result.now (codes "c") c.if-eq.ensures c.as_slice.ensures) c.in-Some.ensures.0 c.in-Some.ensures.1 c.read_complex.ensures
