use Rattle.eval_array.specs.Views.{join_view}
use Rattle.eval_array.proofs.Joined.{logical_alone}
use Rattle.eval_array.proofs.brackets.joined_to_logical.Goals as goal

pub returns-in_default : goal.returns-in_default
returns-in_default c = logical_alone (join_view c.args.join) c.args.a.now c.args.w.now c.in_default.not-Logical
