use Rattle.std.proofs.Common.{ap, sym}
use Rattle.fi_meaning.specs.Operators.{signed_class}
use Rattle.eval_value.specs.View.{fi_view, number_view, value_view}
use Rattle.eval_bits.proofs.Fis.{answered, itself}
use Rattle.eval_bits.proofs.Others.{no_signed, number_itself}
use Rattle.eval_bits.proofs.signs.plus.Goals as goal

pub returns-in_ok-r-in-Fi : goal.returns-in_ok-r-in-Fi
returns-in_ok-r-in-Fi c =
    answered signed_class (fi_view c.in_ok-r-in-Fi.r) _ (fi_view c.in-Fi.v) (value_view c.args.value.now) c.in_ok-r-in-Fi.ensures (itself c.in-Fi.v) (ap value_view c.in-Fi.is)

pub returns-in_ok-r-in-Number : goal.returns-in_ok-r-in-Number
returns-in_ok-r-in-Number c =
    answered signed_class (number_view c.in_ok-r-in-Number.r) _ (number_view c.in-Number.v) (value_view c.args.value.now) c.in_ok-r-in-Number.ensures (number_itself c.in-Number.v) (ap value_view c.in-Number.is)

pub returns-in_default : goal.returns-in_default
returns-in_default c = sym (no_signed c.args.value.now c.in_default.not-Fi c.in_default.not-Number)
