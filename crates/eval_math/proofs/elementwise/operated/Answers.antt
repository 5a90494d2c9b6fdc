use Rattle.std.specs.Prelude.{◌&&◌}
use Rattle.std.proofs.lemmas.Bool.{and_left, and_right}
use Rattle.num_type.specs.View.{type_of}
use Rattle.eval_math.specs.View.{operand_view}
use Rattle.eval_math.proofs.Composed.{made_real, of_left, of_real, of_right}
use Rattle.eval_math.proofs.elementwise.operated.Goals as goal

pub crossed_result-requires-clause-made : goal.crossed_result-requires-clause-made
crossed_result-requires-clause-made c =
    made_real c.args.frame.now.op c.args.frame.now.by.math (type_of c.args.a.now.num) (type_of c.args.b.now.num) (type_of c.args.frame.now.num) (c.args.p && c.args.q) (and_right c.args.p c.args.q c.if-q.false) c.requires.made

pub crossed_result-requires-then-q-2-clause-made : goal.crossed_result-requires-then-q-2-clause-made
crossed_result-requires-then-q-2-clause-made c =
    made_real c.args.frame.now.op c.args.frame.now.by.math (type_of c.args.a.now.num) (type_of c.args.b.now.num) (type_of c.args.frame.now.num) (c.args.p && c.args.q) (and_left c.args.p c.args.q c.if-p.false) c.requires.made

pub real_result-requires-clause-made : goal.real_result-requires-clause-made
real_result-requires-clause-made c =
    made_real c.args.frame.now.op c.args.frame.now.by.math (type_of c.args.a.now.num) (type_of c.args.b.now.num) (type_of c.args.frame.now.num) (c.args.p && c.args.q) (and_left c.args.p c.args.q c.if-p.false) c.requires.made

pub returns-in_ok-v-2 : goal.returns-in_ok-v-2
returns-in_ok-v-2 c = of_left c.args.frame.now (operand_view c.args.a.now) (operand_view c.args.b.now) (operand_view c.in_ok-v-2.v) c.args.p c.args.q c.if-p.true c.if-q.false c.in_ok-v-2.ensures

pub returns-in_ok-v-3 : goal.returns-in_ok-v-3
returns-in_ok-v-3 c = of_right c.args.frame.now (operand_view c.args.a.now) (operand_view c.args.b.now) (operand_view c.in_ok-v-3.v) c.args.p c.args.q c.if-p.false c.if-q-2.true c.in_ok-v-3.ensures

pub returns-in_ok-v-4 : goal.returns-in_ok-v-4
returns-in_ok-v-4 c = of_real c.args.frame.now (operand_view c.args.a.now) (operand_view c.args.b.now) (operand_view c.in_ok-v-4.v) c.args.p c.args.q c.if-p.false c.if-q-2.false c.in_ok-v-4.ensures
