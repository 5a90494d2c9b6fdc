use Rattle.eval_value.specs.View.{item_view}
use Rattle.eval_math.specs.Tasks.{task_view}
use Rattle.eval_math.specs.View.{operand_view}
use Rattle.eval_math.proofs.Dispatch.{number_with, number_without}
use Rattle.eval_math.proofs.task.number_and_fi.Goals as goal

pub returns-in-Ok-None : goal.returns-in-Ok-None
returns-in-Ok-None c = number_without c.args.n.now c.args.b.now (task_view c.args.task) (rw c.in-Ok-None.field-0-is at c.in-Ok-None.ensures)

pub returns-in_ok-r-in-Ok-Some : goal.returns-in_ok-r-in-Ok-Some
returns-in_ok-r-in-Ok-Some c =
    number_with c.args.n.now (operand_view c.in-Ok-Some.a) c.args.b.now (task_view c.args.task) (item_view c.in_ok-r-in-Ok-Some.r) (rw c.in-Ok-Some.field-0-is at c.in-Ok-Some.ensures) c.in_ok-r-in-Ok-Some.ensures
