use Rattle.std.proofs.Common.{arith}
use Rattle.std.specs.Prelude.{pos, ◌≤ℤ◌, ◌<ℤ◌}
use Rattle.std.proofs.lemmas.Int.{ints, clamps}
use Rattle.fi_rules.proofs.Numbers.{length_down, length_small, length_some}
use Rattle.fi_rules.proofs.Lengths.{length_stored}
use Rattle.fi_rules.proofs.whole.length.Goals as goal

pub returns-then-exponent-lt0-clause-value : goal.returns-then-exponent-lt0-clause-value
returns-then-exponent-lt0-clause-value c = length_down c.args.c (omega (arith, ints, clamps, c.if-exponent-lt0.true, c.exponent.ensures.value))

pub returns-then-significand-le0-clause-value : goal.returns-then-significand-le0-clause-value
returns-then-significand-le0-clause-value c = length_small c.args.c (omega (arith, ints, clamps, c.if-significand-le0.true, c.significand.ensures.value, c.significand.ensures.bits))

pub returns-else-significand-le0-clause-value : goal.returns-else-significand-le0-clause-value
returns-else-significand-le0-clause-value c =
    let h : pos 0 ≤ℤ c.args.c.e = omega (arith, ints, clamps, c.if-exponent-lt0.false, c.exponent.ensures.value) in
    let some : pos 0 <ℤ c.args.c.m = omega (arith, ints, clamps, c.if-significand-le0.false, c.significand.ensures.value, c.significand.ensures.bits) in
    length_some c.args.c h some

pub returns-else-significand-le0-clause-same : goal.returns-else-significand-le0-clause-same
returns-else-significand-le0-clause-same c =
    let h : pos 0 ≤ℤ c.args.c.e = omega (arith, ints, clamps, c.if-exponent-lt0.false, c.exponent.ensures.value) in
    let some : pos 0 <ℤ c.args.c.m = omega (arith, ints, clamps, c.if-significand-le0.false, c.significand.ensures.value, c.significand.ensures.bits) in
    length_stored c.args.c h some
