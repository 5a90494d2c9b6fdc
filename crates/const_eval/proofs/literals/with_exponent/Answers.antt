use Rattle.std.proofs.Common.{◌≡◌, ◌≢◌, ◌<◌, ◌%◌, ◌^◌, sym, ◌∙◌, to_z, of_z, arith}
use Rattle.std.specs.Prelude.{ℤ, ◌+ℤ◌, ◌-ℤ◌}
use Rattle.std.specs.Int.{w128}
use Rattle.std.proofs.lemmas.Int.{ints}
use Rattle.num_type.proofs.Constants.{not_true}
use Rattle.const_eval.proofs.Readings.{tens_of, valued, not_valued}
use Rattle.const_eval.proofs.literals.with_exponent.Goals as goal

pub returns-else-is_zero-clause-some : goal.returns-else-is_zero-clause-some
returns-else-is_zero-clause-some c =
    let r = c.args.run.now in
    let tens : ℤ = to_z w128 (of_z w128 (to_z w128 (of_z w128 (to_z w128 (of_z w128 c.in-Some.power) -ℤ to_z w128 c.args.places)) +ℤ to_z w128 c.zeros.result)) in
    let is : tens ≡ tens_of c.in-Some.power c.args.places r.zeros = omega (arith, ints, c.in-Some.ensures.most, c.requires.places, c.requires.zeros, c.zeros.ensures) in
    let last : r.head % 10 ≢ 0 = λ z. not_true (sym c.if-is_zero.false ∙ c.is_zero.ensures.1 (r.last z)) in
    let places : c.args.places < 2 ^ 66 = omega (arith, c.requires.places) in
    valued c.tenfold.result c.args.exponent.now c.in-Some.power r.head c.args.places r.zeros c.head.result tens c.head.ensures is c.in-Some.ensures.some places c.requires.zeros last c.tenfold.ensures.short c.tenfold.ensures.value

pub returns-else-is_zero-clause-none : goal.returns-else-is_zero-clause-none
returns-else-is_zero-clause-none c =
    let r = c.args.run.now in
    let tens : ℤ = to_z w128 (of_z w128 (to_z w128 (of_z w128 (to_z w128 (of_z w128 c.in-Some.power) -ℤ to_z w128 c.args.places)) +ℤ to_z w128 c.zeros.result)) in
    let is : tens ≡ tens_of c.in-Some.power c.args.places r.zeros = omega (arith, ints, c.in-Some.ensures.most, c.requires.places, c.requires.zeros, c.zeros.ensures) in
    let last : r.head % 10 ≢ 0 = λ z. not_true (sym c.if-is_zero.false ∙ c.is_zero.ensures.1 (r.last z)) in
    let places : c.args.places < 2 ^ 66 = omega (arith, c.requires.places) in
    not_valued c.tenfold.result c.args.exponent.now c.in-Some.power r.head c.args.places r.zeros c.head.result tens c.head.ensures is c.in-Some.ensures.some places c.requires.zeros last c.tenfold.ensures.none
