use Rattle.std.proofs.Common.{ap}
use Rattle.eval_value.specs.View.{value_view}
use Rattle.eval_array.specs.Views.{join_view}
use Rattle.eval_array.proofs.Rows.{is_array, no_array}
use Rattle.eval_array.proofs.brackets.joined.Goals as goal

pub returns-in-Words : goal.returns-in-Words
returns-in-Words c = no_array (join_view c.args.join) c.args.v.now (value_view c.args.w.now) (ap is_array c.in-Words.is)

pub returns-in-Math : goal.returns-in-Math
returns-in-Math c = no_array (join_view c.args.join) c.args.v.now (value_view c.args.w.now) (ap is_array c.in-Math.is)

pub returns-in-Type : goal.returns-in-Type
returns-in-Type c = no_array (join_view c.args.join) c.args.v.now (value_view c.args.w.now) (ap is_array c.in-Type.is)
