use Rattle.num_type.specs.View.{type_of}
use Rattle.lower_scalar.specs.Part.{part_view}
use Rattle.lower_op.specs.Arguments.{truth_num}
use Rattle.part_tests.proofs.Lowered.{at_types}
use Rattle.part_tests.proofs.comparisons.decides.Goals as goal

pub gives-requires : goal.gives-requires
gives-requires c =
    at_types (type_of c.logical-left.result.num) (type_of c.logical-right.result.num) (type_of c.logical-truth.result.num) truth_num truth_num truth_num
    (part_view c.in_ok-part.part) c.logical-left.ensures c.logical-right.ensures c.logical-truth.ensures c.in_ok-part.ensures
