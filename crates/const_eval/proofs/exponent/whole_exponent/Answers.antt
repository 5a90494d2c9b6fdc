use Rattle.std.proofs.Common.{to_z, of_z, arith}
use Rattle.std.specs.Prelude.{nat_abs}
use Rattle.std.specs.Int.{w32, w64}
use Rattle.std.proofs.lemmas.Int.{ints, clamps}
use Rattle.const_eval.proofs.Exponents.{none_below, some_exponent, none_exponent}
use Rattle.const_eval.proofs.exponent.whole_exponent.Goals as goal

pub returns-then-exponent-lt0-clause-none : goal.returns-then-exponent-lt0-clause-none
returns-then-exponent-lt0-clause-none c = none_below c.args.value.now (omega (arith, ints, clamps, c.if-exponent-lt0.true, c.exponent.ensures.value))

pub returns-else-exponent-lt0-clause-some : goal.returns-else-exponent-lt0-clause-some
returns-else-exponent-lt0-clause-some c =
    some_exponent c.doubled.result c.args.value.now (to_z w64 (of_z w64 c.significand.result)) (nat_abs (to_z w32 (of_z w32 c.exponent-else-exponent-lt0.result)))
    (omega (arith, ints, clamps, c.significand.ensures.value, c.significand.ensures.bits))
    (omega (arith, ints, clamps, c.if-exponent-lt0.false, c.exponent.ensures.value, c.exponent-else-exponent-lt0.ensures.value, c.exponent-else-exponent-lt0.ensures.most))
    c.doubled.ensures.value c.doubled.ensures.most

pub returns-else-exponent-lt0-clause-none : goal.returns-else-exponent-lt0-clause-none
returns-else-exponent-lt0-clause-none c =
    none_exponent c.doubled.result c.args.value.now (to_z w64 (of_z w64 c.significand.result)) (nat_abs (to_z w32 (of_z w32 c.exponent-else-exponent-lt0.result)))
    (omega (arith, ints, clamps, c.significand.ensures.value, c.significand.ensures.bits))
    (omega (arith, ints, clamps, c.if-exponent-lt0.false, c.exponent.ensures.value, c.exponent-else-exponent-lt0.ensures.value, c.exponent-else-exponent-lt0.ensures.most))
    c.doubled.ensures.none
