use Rattle.std.proofs.Common.{refl, ap, inr}
use Rattle.num_type.specs.View.{type_of}
use Rattle.lower_scalar.specs.Part.{part_view}
use Rattle.part_tests.proofs.Lowered.{at_types}
use Rattle.part_tests.proofs.operations.multiplies_in.Goals as goal

pub computing-requires : goal.computing-requires
computing-requires c = inr (inr (refl, c.requires))

pub gives-requires : goal.gives-requires
gives-requires c =
    at_types (type_of c.args.a.now.num) (type_of c.args.b.now.num) (type_of c.mul-want.result.num) (type_of c.args.a.now.num) (type_of c.args.b.now.num) (type_of c.args.t)
    (part_view c.in_ok-part.part) refl refl (ap type_of c.mul-want.ensures.num) c.in_ok-part.ensures
