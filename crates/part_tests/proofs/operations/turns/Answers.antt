use Rattle.std.proofs.Common.{refl, ap, inl, inr}
use Rattle.num_type.specs.View.{type_of}
use Rattle.lower_scalar.specs.Part.{part_view}
use Rattle.part_tests.proofs.Lowered.{at_types}
use Rattle.part_tests.proofs.operations.turns.Goals as goal

pub turning-requires : goal.turning-requires
turning-requires c = inl refl

pub turning-requires-2 : goal.turning-requires-2
turning-requires-2 c = inr refl

pub gives-requires : goal.gives-requires
gives-requires c =
    at_types (type_of c.args.a.num) (type_of c.args.a.num) (type_of c.neg-opposite.result.num) (type_of c.args.a.num) (type_of c.args.a.num) (type_of c.args.a.num)
    (part_view c.in_ok-minus.minus) refl refl (ap type_of c.neg-opposite.ensures.num) c.in_ok-minus.ensures

pub gives-requires-2 : goal.gives-requires-2
gives-requires-2 c =
    at_types (type_of c.args.a.num) (type_of c.args.a.num) (type_of c.abs-positive.result.num) (type_of c.args.a.num) (type_of c.args.a.num) (type_of c.args.a.num)
    (part_view c.in_ok-size.size) refl refl (ap type_of c.abs-positive.ensures.num) c.in_ok-size.ensures
