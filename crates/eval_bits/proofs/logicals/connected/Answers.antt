use Rattle.std.proofs.Common.{sym}
use Rattle.eval_value.specs.View.{value_view}
use Rattle.eval_bits.specs.Joints.{connects}
use Rattle.eval_bits.proofs.Joined.{no_first, no_second}
use Rattle.eval_bits.proofs.logicals.connected.Goals as goal

pub returns-in-None : goal.returns-in-None
returns-in-None c = sym (no_first (connects c.args.op) (value_view c.args.x.now) (value_view c.args.y.now) c.in-None.ensures.other)

pub returns-in-None-logical : goal.returns-in-None-logical
returns-in-None-logical c = sym (no_second (connects c.args.op) (value_view c.args.x.now) (value_view c.args.y.now) c.in-None-logical.ensures.other)
