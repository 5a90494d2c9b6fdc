use Rattle.std.proofs.Common.{sym}
use Rattle.eval_value.specs.View.{value_view}
use Rattle.eval_bits.proofs.Conditions.{none_true}
use Rattle.eval_bits.proofs.truths.scalar_truth.Goals as goal

pub returns-in-None : goal.returns-in-None
returns-in-None c = sym (none_true (value_view c.args.value.now) c.in-None.ensures.other)
