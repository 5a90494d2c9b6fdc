use Rattle.std.proofs.Common.{arith}
use Rattle.c_tree.specs.View.{expr_view}
use Rattle.lower_scalar.specs.Part.{part_view}
use Rattle.part_tests.proofs.Lowered.{reads, of_equality}
use Rattle.part_tests.proofs.comparisons.testing.Goals as goal

pub lower_op-requires-clause-typed : goal.lower_op-requires-clause-typed
lower_op-requires-clause-typed c = (
  c.requires,
  reads 0 (expr_view c.variable.result) (omega arith) c.variable.ensures,
  reads 1 (expr_view c.variable-2.result) (omega arith) c.variable-2.ensures,
)

pub returns : goal.returns
returns c =
    of_equality c.args.op (expr_view c.variable.result) (expr_view c.variable-2.result) (part_view c.in_ok-r.r) c.variable.ensures c.variable-2.ensures c.requires c.in_ok-r.ensures
