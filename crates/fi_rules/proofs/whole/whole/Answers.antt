use Rattle.std.proofs.Common.{arith}
use Rattle.std.specs.Prelude.{pos, ◌≤ℤ◌}
use Rattle.std.proofs.lemmas.Int.{ints, clamps}
use Rattle.fi_rules.proofs.Numbers.{whole_up, whole_none, fraction_there}
use Rattle.fi_rules.proofs.whole.whole.Goals as goal

pub returns-then-exponent-lt0 : goal.returns-then-exponent-lt0
returns-then-exponent-lt0 c = whole_none c.args.c (omega (arith, ints, clamps, c.if-exponent-lt0.true, c.exponent.ensures.value))

pub returns-else-exponent-lt0 : goal.returns-else-exponent-lt0
returns-else-exponent-lt0 c =
    let h : pos 0 ≤ℤ c.args.c.e = omega (arith, ints, clamps, c.if-exponent-lt0.false, c.exponent.ensures.value) in
    fraction_there c.args.c (whole_up c.args.c h)
