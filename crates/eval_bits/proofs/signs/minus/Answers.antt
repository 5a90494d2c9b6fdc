use Rattle.std.proofs.Common.{ap, sym}
use Rattle.fi_meaning.specs.Operators as operators
use Rattle.eval_value.specs.View.{fi_view, value_view}
use Rattle.eval_bits.proofs.Fis.{answered, sign_turned}
use Rattle.eval_bits.proofs.Others.{no_minus}
use Rattle.eval_bits.proofs.signs.minus.Goals as goal

pub returns-in_ok-r-in-Fi : goal.returns-in_ok-r-in-Fi
returns-in_ok-r-in-Fi c =
    answered operators.minus (fi_view c.in_ok-r-in-Fi.r) _ (fi_view c.in-Fi.v) (value_view c.args.value.now) c.in_ok-r-in-Fi.ensures (sign_turned c.in-Fi.v) (ap value_view c.in-Fi.is)

pub returns-in_default : goal.returns-in_default
returns-in_default c = sym (no_minus c.args.value.now c.in_default.not-Fi c.in_default.not-Number)
