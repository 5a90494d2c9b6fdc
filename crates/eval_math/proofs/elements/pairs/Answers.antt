use Rattle.std.proofs.Common.{◌∙◌, sym, length, arith}
use Rattle.eval_math.proofs.Pairing.{single_right, both_lists, met_both}
use Rattle.eval_math.proofs.elements.pairs.Goals as goal

pub returns-in_ok-v-2-clause-value : goal.returns-in_ok-v-2-clause-value
returns-in_ok-v-2-clause-value g c =
    c.in_ok-v-2.ensures.value
    ∙ single_right c.args.xs.now c.args.ys.now c.index-ys-0.result (omega (arith, c.if-ys-eq1.true)) c.index-ys-0.is (λ e. omega (arith, e, c.if-xs-eq1.false))

pub returns-in_ok-v-3-clause-value : goal.returns-in_ok-v-3-clause-value
returns-in_ok-v-3-clause-value g c =
    let m = met_both c.args.count (length c.args.xs.now) (length c.args.ys.now) c.requires (λ e. omega (arith, e, c.if-xs-eq1.false)) (λ e. omega (arith, e, c.if-ys-eq1.false)) in
    c.in_ok-v-3.ensures.value ∙ both_lists c.args.xs.now c.args.ys.now (m.0 ∙ sym m.1)
