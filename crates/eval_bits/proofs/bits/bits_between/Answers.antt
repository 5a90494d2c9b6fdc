use Rattle.std.proofs.Common.{sym}
use Rattle.eval_bits.proofs.Others.{no_fi_sliced}
use Rattle.eval_bits.proofs.bits.bits_between.Goals as goal

pub returns-in_default : goal.returns-in_default
returns-in_default c = sym (no_fi_sliced c.args.value.now c.args.left c.args.right c.in_default.not-Fi)
