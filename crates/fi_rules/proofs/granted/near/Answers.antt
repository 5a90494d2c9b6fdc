use Rattle.std.proofs.Common.{arith}
use Rattle.std.specs.Prelude.{pos, ◌≤ℤ◌, ◌<ℤ◌}
use Rattle.std.proofs.lemmas.Int.{ints, clamps}
use Rattle.fi_rules.proofs.Numbers.{whole_up, whole_down, fraction_missing}
use Rattle.fi_rules.proofs.Lengths.{near_some, near_none, near_stored}
use Rattle.fi_rules.proofs.granted.near.Goals as goal

pub returns-then-exponent-lt0-clause-some : goal.returns-then-exponent-lt0-clause-some
returns-then-exponent-lt0-clause-some c =
    let h : c.args.fraction.e <ℤ pos 0 = omega (arith, ints, clamps, c.if-exponent-lt0.true, c.exponent.ensures.value) in
    fraction_missing c.args.fraction (whole_down c.args.fraction h)

pub returns-else-exponent-lt0-clause-some : goal.returns-else-exponent-lt0-clause-some
returns-else-exponent-lt0-clause-some c = near_some c.args.fraction c.between.result c.between.ensures.value

pub returns-else-exponent-lt0-clause-none : goal.returns-else-exponent-lt0-clause-none
returns-else-exponent-lt0-clause-none c =
    let h : pos 0 ≤ℤ c.args.fraction.e = omega (arith, ints, clamps, c.if-exponent-lt0.false, c.exponent.ensures.value) in
    near_none c.args.fraction c.between.result (whole_up c.args.fraction h) c.between.ensures.value

pub returns-else-exponent-lt0-clause-shown : goal.returns-else-exponent-lt0-clause-shown
returns-else-exponent-lt0-clause-shown c =
    let h : pos 0 ≤ℤ c.args.fraction.e = omega (arith, ints, clamps, c.if-exponent-lt0.false, c.exponent.ensures.value) in
    near_stored c.args.fraction c.between.result (whole_up c.args.fraction h)
