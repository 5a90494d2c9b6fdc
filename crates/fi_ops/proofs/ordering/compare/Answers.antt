use Rattle.std.proofs.Common.{arith, w32, to_z, of_z}
use Rattle.std.proofs.lemmas.Int.{ints}
use Rattle.fi_ops.specs.View.{element_of}
use Rattle.fi_ops.proofs.Orders.{sizes_above, sizes_below, left_below, right_below}
use Rattle.fi_ops.proofs.ordering.compare.Goals as goal

pub returns-in-true-true : goal.returns-in-true-true
returns-in-true-true c = sizes_below (element_of c.args.a) (element_of c.args.b) c.magnitude-in-true-true.result c.magnitude.result (to_z w32 (of_z w32 c.fraction-left.result)) (to_z w32 (of_z w32 c.fraction-right.result)) c.compare_sizes.result c.in-true-true.ensures c.in-true-true.ensures' c.magnitude-in-true-true.ensures c.magnitude.ensures (omega (arith, ints, c.fraction-left.ensures)) (omega (arith, ints, c.fraction-right.ensures)) c.compare_sizes.ensures

pub returns-in-true-false : goal.returns-in-true-false
returns-in-true-false c = left_below (element_of c.args.a) (element_of c.args.b) c.in-true-false.ensures c.in-true-false.ensures'

pub returns-in-false-true : goal.returns-in-false-true
returns-in-false-true c = right_below (element_of c.args.a) (element_of c.args.b) c.in-false-true.ensures c.in-false-true.ensures'

pub returns-in-false-false : goal.returns-in-false-false
returns-in-false-false c = sizes_above (element_of c.args.a) (element_of c.args.b) c.magnitude-in-false-false.result c.magnitude-in-false-false-2.result (to_z w32 (of_z w32 c.fraction-left.result)) (to_z w32 (of_z w32 c.fraction-right.result)) c.compare_sizes-in-false-false.result c.in-false-false.ensures c.in-false-false.ensures' c.magnitude-in-false-false.ensures c.magnitude-in-false-false-2.ensures (omega (arith, ints, c.fraction-left.ensures)) (omega (arith, ints, c.fraction-right.ensures)) c.compare_sizes-in-false-false.ensures
