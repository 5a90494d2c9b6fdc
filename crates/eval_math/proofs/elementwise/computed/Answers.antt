use Rattle.eval_value.specs.View.{item_view, shape_view}
use Rattle.eval_math.proofs.Bound.{bound_none, bound_some}
use Rattle.eval_math.proofs.elementwise.computed.Goals as goal

pub returns-in-None : goal.returns-in-None
returns-in-None c = bound_none _ _ c.in-None.ensures.value

pub returns-in_ok-r-in-Some : goal.returns-in_ok-r-in-Some
returns-in_ok-r-in-Some c = bound_some _ _ (shape_view c.in-Some.shape) (item_view c.in_ok-r-in-Some.r) c.in-Some.ensures.value c.in_ok-r-in-Some.ensures
