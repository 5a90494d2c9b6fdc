use Rattle.std.proofs.Common.{◌∙◌, arith}
use Rattle.std.proofs.lemmas.Int.{ints}
use Rattle.lower_op.specs.Arguments.{operand}
use Rattle.lower_op.proofs.CompareParts.{part_level, part_left, part_right}
use Rattle.lower_op.proofs.comparisons.compared_part.Goals as goal

pub returns-in_ok-r : goal.returns-in_ok-r
returns-in_ok-r c =
    let h = c.fraction-left.ensures.value in
    let l = c.fraction-right.ensures.value in
    c.in_ok-r.ensures ∙ part_level c.args.rel (operand c.args.p c.args.a) (operand c.args.q c.args.b) c.args.fresh (omega (arith, ints, h, l, c.if-left-right.true))

pub returns-in_ok-r-2 : goal.returns-in_ok-r-2
returns-in_ok-r-2 c =
    let h = c.fraction-left.ensures.value in
    let l = c.fraction-right.ensures.value in
    c.in_ok-r-2.ensures
    ∙ part_left c.args.rel (operand c.args.p c.args.a) (operand c.args.q c.args.b) c.args.fresh c.gap-k.result (omega (arith, ints, c.gap-k.ensures, c.if-right-left.true)) (omega (arith, ints, h, l, c.gap-k.ensures))

pub returns-in_ok-r-3 : goal.returns-in_ok-r-3
returns-in_ok-r-3 c =
    let h = c.fraction-left.ensures.value in
    let l = c.fraction-right.ensures.value in
    c.in_ok-r-3.ensures
    ∙ part_right c.args.rel (operand c.args.p c.args.a) (operand c.args.q c.args.b) c.args.fresh c.gap-k-else-right-left.result
    (omega (arith, ints, c.gap-k-else-right-left.ensures, c.if-right-left.false, c.if-left-right.false)) (omega (arith, ints, h, l, c.gap-k-else-right-left.ensures))
