use Rattle.std.proofs.Common.{◌≡◌, ◌-◌, to_z, of_z, ◌∙◌, arith}
use Rattle.std.specs.Int.{w64}
use Rattle.std.proofs.lemmas.Int.{ints, clamps, to_z-of_z}
use Rattle.const_eval.proofs.Exponents.{not_within, some_once, none_once}
use Rattle.const_eval.proofs.exponent.+doubled.Goals as goal

pub returns-then-not-is_within-clause-none : goal.returns-then-not-is_within-clause-none
returns-then-not-is_within-clause-none n c =
    not_within c.is_within.result c.args.number (to_z w64 (of_z w64 c.args.number)) c.args.times (to_z-of_z w64 c.args.number c.ranges.number) c.if-not-is_within.true c.is_within.ensures

pub returns-else-times-eq0-clause-value : goal.returns-else-times-eq0-clause-value
returns-else-times-eq0-clause-value n c =
    some_once c.doubled.result c.args.number (to_z w64 (of_z w64 c.args.number)) (to_z w64 (of_z w64 c.twice.result)) (c.args.times - 1) c.args.times (to_z-of_z w64 c.args.number c.ranges.number)
    ((let e : to_z w64 (of_z w64 c.twice.result) ≡ c.twice.result = omega (arith, ints, clamps, c.twice.type_inv) in e) ∙ c.twice.ensures)
    (omega (arith, c.if-times-eq0.false))
    c.doubled.ensures.value

pub returns-else-times-eq0-clause-none : goal.returns-else-times-eq0-clause-none
returns-else-times-eq0-clause-none n c =
    none_once c.doubled.result c.args.number (to_z w64 (of_z w64 c.args.number)) (to_z w64 (of_z w64 c.twice.result)) (c.args.times - 1) c.args.times (to_z-of_z w64 c.args.number c.ranges.number)
    ((let e : to_z w64 (of_z w64 c.twice.result) ≡ c.twice.result = omega (arith, ints, clamps, c.twice.type_inv) in e) ∙ c.twice.ensures)
    (omega (arith, c.if-times-eq0.false))
    c.doubled.ensures.none
