use Rattle.std.proofs.Common.{sym}
use Rattle.eval_value.specs.View.{value_view}
use Rattle.eval_bits.proofs.Joined.{no_top, no_bottom}
use Rattle.eval_bits.proofs.concatenation.pair_concatenated.Goals as goal

pub returns-in-None : goal.returns-in-None
returns-in-None c = sym (no_top (value_view c.args.x.now) (value_view c.args.y.now) c.in-None.ensures.other)

pub returns-in-None-real_fi : goal.returns-in-None-real_fi
returns-in-None-real_fi c = sym (no_bottom (value_view c.args.x.now) (value_view c.args.y.now) c.in-None-real_fi.ensures.other)
