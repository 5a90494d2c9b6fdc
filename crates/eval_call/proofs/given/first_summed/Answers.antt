use Rattle.eval_value.specs.View.{item_view}
use Rattle.eval_math.specs.Totals.{along_view}
use Rattle.eval_call.proofs.Numbered.{fi_sum, no_sum}
use Rattle.eval_call.proofs.given.first_summed.Goals as goal

pub returns-in_ok-r-in-Fi : goal.returns-in_ok-r-in-Fi
returns-in_ok-r-in-Fi c = fi_sum c.args.v.now c.in-Fi.a (along_view c.first_along.result) (item_view c.in_ok-r-in-Fi.r) c.in-Fi.is c.first_along.ensures c.in_ok-r-in-Fi.ensures

pub returns-in_default : goal.returns-in_default
returns-in_default c = no_sum c.args.v.now c.in_default.not-Fi
