use Rattle.eval_value.specs.View.{item_view, value_view}
use Rattle.eval_math.specs.Totals.{along_view}
use Rattle.eval_call.proofs.Numbered.{summed_none, summed_some}
use Rattle.eval_call.proofs.given.summed_by.Goals as goal

pub returns-in-None : goal.returns-in-None
returns-in-None c = summed_none (value_view c.args.d.now) (value_view c.args.v.now) c.in-None.ensures

pub returns-in_ok-r-in-Some : goal.returns-in_ok-r-in-Some
returns-in_ok-r-in-Some c =
    summed_some (value_view c.args.d.now) (value_view c.args.v.now) (along_view c.in-Some.along) (item_view c.in_ok-r-in-Some.r) c.in-Some.ensures c.in_ok-r-in-Some.ensures
