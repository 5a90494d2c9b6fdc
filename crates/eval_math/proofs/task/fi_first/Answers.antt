use Rattle.eval_value.specs.View.{item_view}
use Rattle.eval_math.specs.Tasks.{task_view}
use Rattle.eval_math.proofs.Dispatch.{fi_and_other, is_logical, is_math, is_type, is_words, two_fis}
use Rattle.eval_math.proofs.task.fi_first.Goals as goal

pub returns-in_ok-r-in-Fi : goal.returns-in_ok-r-in-Fi
returns-in_ok-r-in-Fi c = two_fis c.args.a.now _ c.args.y.now (task_view c.args.task) (item_view c.in_ok-r-in-Fi.r) c.in-Fi.is c.in_ok-r-in-Fi.ensures

pub returns-in-Logical : goal.returns-in-Logical
returns-in-Logical c = fi_and_other c.args.a.now c.args.y.now (task_view c.args.task) (is_logical c.args.y.now _ c.in-Logical.is)

pub returns-in-Words : goal.returns-in-Words
returns-in-Words c = fi_and_other c.args.a.now c.args.y.now (task_view c.args.task) (is_words c.args.y.now _ c.in-Words.is)

pub returns-in-Math : goal.returns-in-Math
returns-in-Math c = fi_and_other c.args.a.now c.args.y.now (task_view c.args.task) (is_math c.args.y.now _ c.in-Math.is)

pub returns-in-Type : goal.returns-in-Type
returns-in-Type c = fi_and_other c.args.a.now c.args.y.now (task_view c.args.task) (is_type c.args.y.now _ c.in-Type.is)
