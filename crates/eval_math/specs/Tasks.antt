-- What is done to two operands.
use Rattle.std.specs.Prelude.{Option}
use Rattle.fi_rules.specs.Value.{Val}
use Rattle.fi_values.specs.Arithmetic.{Operand, computed}
use Rattle.fi_values.specs.Comparisons.{of_operands}
use Rattle.fi_values.specs.Products.{fi_matrix}
use Rattle.eval_math.specs.Orders.{comparison_view}
use Rattle.eval_math.specs.View.{work_view}
use Rattle.eval_math.specs.declared.task.Task.{Task}
use Rattle.eval_math.specs.declared.task.Task.TheVariants as task

abbrev pub task_view : Task → Operand × Operand → Option Val
task_view (task.Compute op) ab = computed (work_view op) ab
task_view task.Multiply ab = fi_matrix ab
task_view (task.Compare k) ab = of_operands (comparison_view k) ab
