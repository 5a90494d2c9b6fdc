use Rattle.std.proofs.Common.{arith}
use Rattle.num_type.specs.View.{type_of}
use Rattle.c_tree.specs.View.{expr_view}
use Rattle.lower_scalar.specs.Part.{part_view}
use Rattle.part_tests.proofs.Lowered.{reads, is_comparison, of_comparison}
use Rattle.part_tests.proofs.comparisons.comparing.Goals as goal

pub lower_op-requires-clause-typed : goal.lower_op-requires-clause-typed
lower_op-requires-clause-typed c = (
  is_comparison c.op_of.result c.args.rel c.op_of.ensures,
  reads 0 (expr_view c.variable.result) (omega arith) c.variable.ensures,
  reads 1 (expr_view c.variable-2.result) (omega arith) c.variable-2.ensures,
)

pub returns : goal.returns
returns c =
    of_comparison c.op_of.result c.args.rel (type_of c.args.p) (type_of c.args.q) (expr_view c.variable.result) (expr_view c.variable-2.result) (part_view c.in_ok-r.r)
    c.variable.ensures c.variable-2.ensures c.op_of.ensures c.in_ok-r.ensures
