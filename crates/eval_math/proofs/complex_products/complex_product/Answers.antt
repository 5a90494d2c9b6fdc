use Rattle.std.proofs.Common.{sym}
use Rattle.num_type.specs.View.{type_of}
use Rattle.fi_ops.proofs.Parts.{complex_has_product}
use Rattle.eval_math.specs.View.{operand_view}
use Rattle.eval_math.proofs.Composed.{of_complex}
use Rattle.eval_math.proofs.complex_products.complex_product.Goals as goal

pub unreachable-requires : goal.unreachable-requires
unreachable-requires c = complex_has_product c.args.frame.now.by.math (type_of c.args.a.now.num) (type_of c.args.b.now.num) (type_of c.args.frame.now.num) c.in-Err.field-0 c.in-Err.ensures c.requires.made

pub returns : goal.returns
returns c = of_complex c.args.frame.now (operand_view c.args.a.now) (operand_view c.args.b.now) (operand_view c.in_ok-v-in-Ok.v) (type_of c.in-Ok.p) (sym c.in-Ok.ensures) c.in_ok-v-in-Ok.ensures
