use Rattle.num_type.specs.View.{type_of}
use Rattle.eval_math.specs.View.{operand_view}
use Rattle.eval_math.proofs.Composed.{made_difference, made_product, made_sum, of_differences, of_sums}
use Rattle.eval_math.proofs.elementwise.complex_result.Goals as goal

pub crossed_result-requires-clause-made : goal.crossed_result-requires-clause-made
crossed_result-requires-clause-made c = made_sum c.args.frame.now.op c.args.frame.now.by.math (type_of c.args.a.now.num) (type_of c.args.b.now.num) (type_of c.args.frame.now.num) c.in-Sum.is c.requires.made

pub crossed_result-requires-in-Difference-clause-made : goal.crossed_result-requires-in-Difference-clause-made
crossed_result-requires-in-Difference-clause-made c = made_difference c.args.frame.now.op c.args.frame.now.by.math (type_of c.args.a.now.num) (type_of c.args.b.now.num) (type_of c.args.frame.now.num) c.in-Difference.is c.requires.made

pub complex_product-requires-clause-made : goal.complex_product-requires-clause-made
complex_product-requires-clause-made c = made_product c.args.frame.now.op c.args.frame.now.by.math (type_of c.args.a.now.num) (type_of c.args.b.now.num) (type_of c.args.frame.now.num) c.in-Product.is c.requires.made

pub returns-in_ok-v-in-Sum : goal.returns-in_ok-v-in-Sum
returns-in_ok-v-in-Sum c = of_sums c.args.frame.now (operand_view c.args.a.now) (operand_view c.args.b.now) (operand_view c.in_ok-v-in-Sum.v) c.in-Sum.is c.in_ok-v-in-Sum.ensures

pub returns-in_ok-v-in-Difference : goal.returns-in_ok-v-in-Difference
returns-in_ok-v-in-Difference c = of_differences c.args.frame.now (operand_view c.args.a.now) (operand_view c.args.b.now) (operand_view c.in_ok-v-in-Difference.v) c.in-Difference.is c.in_ok-v-in-Difference.ensures
