use Rattle.eval_value.specs.View.{value_view}
use Rattle.eval_math.specs.Tasks.{task_view}
use Rattle.eval_math.proofs.Dispatch.{is_logical, is_math, is_type, is_words, other_left}
use Rattle.eval_math.proofs.task.of_values.Goals as goal

pub returns-in-Logical : goal.returns-in-Logical
returns-in-Logical c = other_left c.args.x.now (value_view c.args.y.now) (task_view c.args.task) (is_logical c.args.x.now _ c.in-Logical.is)

pub returns-in-Words : goal.returns-in-Words
returns-in-Words c = other_left c.args.x.now (value_view c.args.y.now) (task_view c.args.task) (is_words c.args.x.now _ c.in-Words.is)

pub returns-in-Math : goal.returns-in-Math
returns-in-Math c = other_left c.args.x.now (value_view c.args.y.now) (task_view c.args.task) (is_math c.args.x.now _ c.in-Math.is)

pub returns-in-Type : goal.returns-in-Type
returns-in-Type c = other_left c.args.x.now (value_view c.args.y.now) (task_view c.args.task) (is_type c.args.x.now _ c.in-Type.is)
