use Rattle.eval_math.specs.Tasks.{task_view}
use Rattle.eval_math.proofs.Dispatch.{is_logical, is_math, is_type, is_words, number_and_other, two_numbers}
use Rattle.eval_math.proofs.task.number_first.Goals as goal

pub returns-in-Number : goal.returns-in-Number
returns-in-Number c = two_numbers c.args.n.now _ c.args.y.now (task_view c.args.task) c.in-Number.is

pub returns-in-Logical : goal.returns-in-Logical
returns-in-Logical c = number_and_other c.args.n.now c.args.y.now (task_view c.args.task) (is_logical c.args.y.now _ c.in-Logical.is)

pub returns-in-Words : goal.returns-in-Words
returns-in-Words c = number_and_other c.args.n.now c.args.y.now (task_view c.args.task) (is_words c.args.y.now _ c.in-Words.is)

pub returns-in-Math : goal.returns-in-Math
returns-in-Math c = number_and_other c.args.n.now c.args.y.now (task_view c.args.task) (is_math c.args.y.now _ c.in-Math.is)

pub returns-in-Type : goal.returns-in-Type
returns-in-Type c = number_and_other c.args.n.now c.args.y.now (task_view c.args.task) (is_type c.args.y.now _ c.in-Type.is)
