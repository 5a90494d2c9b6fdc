use Rattle.std.proofs.Common.{sym, ◌∙◌, arith}
use Rattle.std.specs.Prelude.{pos, ◌≤ℤ◌, ◌<ℤ◌}
use Rattle.std.proofs.lemmas.Int.{ints, clamps}
use Rattle.eval_array.proofs.Bounds.{wholes_end, wholes_go, wholes_stop}
use Rattle.eval_array.proofs.numbers.are_whole.Goals as goal

pub returns-then-exponent-lt0 : goal.returns-then-exponent-lt0
returns-then-exponent-lt0 c =
    let h : c.c-item.result.e <ℤ pos 0 = omega (arith, ints, clamps, c.if-exponent-lt0.true, c.exponent.ensures.value) in
    sym (wholes_stop c.args.all.now c.loop-c.c-index c.c-item.result c.loop-c-test.true c.c-item.is h) ∙ c.loop-c.invariant

pub loop-c-preserved : goal.loop-c-preserved
loop-c-preserved c =
    let h : pos 0 ≤ℤ c.c-item.result.e = omega (arith, ints, clamps, c.if-exponent-lt0.false, c.exponent.ensures.value) in
    sym (wholes_go c.args.all.now c.loop-c.c-index c.c-item.result c.loop-c-test.true c.c-item.is h) ∙ c.loop-c.invariant

pub returns : goal.returns
returns c = sym (wholes_end c.args.all.now c.loop-c.c-index c.loop-c-test.false) ∙ c.loop-c.invariant
