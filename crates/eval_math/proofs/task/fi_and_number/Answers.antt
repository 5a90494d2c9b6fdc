use Rattle.eval_value.specs.View.{item_view, number_view}
use Rattle.eval_math.specs.Tasks.{task_view}
use Rattle.eval_math.specs.View.{operand_view}
use Rattle.eval_math.proofs.Dispatch.{fi_with, fi_without}
use Rattle.eval_math.proofs.task.fi_and_number.Goals as goal

pub returns-in-Ok-None : goal.returns-in-Ok-None
returns-in-Ok-None c = fi_without c.args.a.now (number_view c.args.n.now) (task_view c.args.task) (rw c.in-Ok-None.field-0-is at c.in-Ok-None.ensures)

pub returns-in_ok-r-in-Ok-Some : goal.returns-in_ok-r-in-Ok-Some
returns-in_ok-r-in-Ok-Some c =
    fi_with c.args.a.now (operand_view c.in-Ok-Some.b) (number_view c.args.n.now) (task_view c.args.task) (item_view c.in_ok-r-in-Ok-Some.r) (rw c.in-Ok-Some.field-0-is at c.in-Ok-Some.ensures) c.in_ok-r-in-Ok-Some.ensures
