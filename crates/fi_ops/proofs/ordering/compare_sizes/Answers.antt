use Rattle.std.proofs.Common.{arith}
use Rattle.std.proofs.lemmas.Int.{ints}
use Rattle.fi_ops.proofs.Orders.{less_moved, more_moved}
use Rattle.fi_ops.proofs.ordering.compare_sizes.Goals as goal

pub returns-then-f-g : goal.returns-then-f-g
returns-then-f-g c = less_moved c.args.x c.args.y c.args.f c.args.g c.gap.result c.compare_shifted.result (omega (arith, ints)) (omega (arith, ints)) c.compare_shifted.ensures

pub returns-else-f-g : goal.returns-else-f-g
returns-else-f-g c = more_moved c.args.x c.args.y c.args.f c.args.g c.gap-else-f-g.result c.compare_shifted-else-f-g.result c.reverse.result (omega (arith, ints)) (omega (arith, ints)) c.compare_shifted-else-f-g.ensures c.reverse.ensures
