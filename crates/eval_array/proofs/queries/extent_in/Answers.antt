use Rattle.std.proofs.Common.{◌∙◌, Some, ap}
use Rattle.eval_value.specs.View.{shape_view}
use Rattle.eval_array.proofs.Joined.{extent_one, extent_two, extent_other}
use Rattle.eval_array.proofs.queries.extent_in.Goals as goal

pub returns-then-dimension-eq1 : goal.returns-then-dimension-eq1
returns-then-dimension-eq1 c = ap Some c.rows.ensures.value ∙ extent_one c.args.dimension (shape_view c.args.s) c.if-dimension-eq1.true

pub returns-then-dimension-eq2 : goal.returns-then-dimension-eq2
returns-then-dimension-eq2 c = ap Some c.cols.ensures.value ∙ extent_two c.args.dimension (shape_view c.args.s) c.if-dimension-eq2.true

pub returns-else-dimension-eq2 : goal.returns-else-dimension-eq2
returns-else-dimension-eq2 c = extent_other c.args.dimension (shape_view c.args.s) c.if-dimension-eq1.false c.if-dimension-eq2.false
