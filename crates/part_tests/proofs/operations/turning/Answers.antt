use Rattle.std.proofs.Common.{arith}
use Rattle.num_type.specs.View.{type_of}
use Rattle.c_tree.specs.View.{expr_view}
use Rattle.lower_scalar.specs.Part.{part_view}
use Rattle.part_tests.proofs.Lowered.{reads, of_one}
use Rattle.part_tests.proofs.operations.turning.Goals as goal

pub lower_op-requires-clause-typed : goal.lower_op-requires-clause-typed
lower_op-requires-clause-typed c = (c.requires, reads 0 (expr_view c.variable.result) (omega arith) c.variable.ensures)

pub returns : goal.returns
returns c =
    of_one c.args.op c.args.m.now (type_of c.args.p) (expr_view c.variable.result) (part_view c.in_ok-r.r) c.variable.ensures c.requires c.in_ok-r.ensures
