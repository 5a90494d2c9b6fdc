use Rattle.std.proofs.Common.{map}
use Rattle.std.specs.Prelude.{None, Some}
use Rattle.num_type.specs.View.{exact_of, type_of}
use Rattle.eval_value.specs.View.{shape_view}
use Rattle.eval_math.proofs.Alongside.{real_with, real_without_stored, real_without_type, stored_is}
use Rattle.eval_math.proofs.beside.real_beside.Goals as goal

pub returns-in-None : goal.returns-in-None
returns-in-None c = real_without_type (type_of c.args.t) (shape_view c.args.shape) (map exact_of c.args.re.now) c.in-None.ensures.value

pub returns-in-Ok-None : goal.returns-in-Ok-None
returns-in-Ok-None c =
    real_without_stored (type_of c.args.t) (shape_view c.args.shape) (map exact_of c.args.re.now)
    (stored_is None (type_of c.args.t) (type_of c.in-Some.u) c.args.re.now (rw c.in-Ok-None.field-0-is at c.in-Ok-None.ensures.value) c.in-Some.ensures.same)

pub returns-in-Ok-Some : goal.returns-in-Ok-Some
returns-in-Ok-Some c =
    real_with (type_of c.args.t) (type_of c.in-Some.u) (shape_view c.args.shape) (map exact_of c.args.re.now) c.in-Ok-Some.stored.items c.in-Some.ensures.value
    (stored_is (Some c.in-Ok-Some.stored.items) (type_of c.args.t) (type_of c.in-Some.u) c.args.re.now (rw c.in-Ok-Some.field-0-is at c.in-Ok-Some.ensures.value) c.in-Some.ensures.same)
