use Rattle.eval_value.specs.View.{item_view, value_view}
use Rattle.eval_call.proofs.Numbered.{stated_extent}
use Rattle.eval_call.proofs.given.extent_by.Goals as goal

pub returns-in_ok-r-in-Some : goal.returns-in_ok-r-in-Some
returns-in_ok-r-in-Some c =
    stated_extent (value_view c.args.v.now) (value_view c.args.d.now) c.in-Some.dimension (item_view c.in_ok-r-in-Some.r) c.in-Some.ensures c.in_ok-r-in-Some.ensures
