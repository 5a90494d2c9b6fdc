use Rattle.std.proofs.Common.{arith}
use Rattle.fi_ops.proofs.Orders.{far_above}
use Rattle.fi_ops.proofs.ordering.compare_shifted.Goals as goal

pub returns-then-x-gt0 : goal.returns-then-x-gt0
returns-then-x-gt0 c = far_above c.args.x c.args.n c.args.y (omega (arith, c.if-x-gt0.true)) (omega (arith, c.if-n-ge128.true)) (omega arith)
