use Rattle.std.proofs.Common.{arith}
use Rattle.num_type.specs.View.{type_of}
use Rattle.c_tree.specs.View.{expr_view}
use Rattle.lower_scalar.specs.Part.{part_view}
use Rattle.part_tests.proofs.Lowered.{reads, of_first}
use Rattle.part_tests.proofs.conversions.quantising.Goals as goal

pub lower_quantise-requires-clause-reads : goal.lower_quantise-requires-clause-reads
lower_quantise-requires-clause-reads c = reads 0 (expr_view c.variable.result) (omega arith) c.variable.ensures

pub returns : goal.returns
returns c =
    of_first (type_of c.args.from) (type_of c.args.from) c.args.t.signed (expr_view c.variable.result) _ (part_view c.in_ok-p.p) c.variable.ensures c.in_ok-p.ensures
