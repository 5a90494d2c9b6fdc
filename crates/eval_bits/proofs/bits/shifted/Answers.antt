use Rattle.std.proofs.Common.{sym}
use Rattle.eval_bits.proofs.Others.{no_fi_moved}
use Rattle.eval_bits.proofs.bits.shifted.Goals as goal

pub returns-in_default : goal.returns-in_default
returns-in_default c = sym (no_fi_moved c.args.value.now c.args.shift c.args.places c.in_default.not-Fi)
