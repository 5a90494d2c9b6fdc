use Rattle.std.proofs.Common.{◌≡◌, ℕ, to_z, of_z, arith}
use Rattle.std.specs.Prelude.{pos, ◌-ℤ◌, ◌<ℤ◌, neg_ℤ, nat_abs}
use Rattle.std.specs.Int.{w32}
use Rattle.std.proofs.lemmas.Int.{ints}
use Rattle.num_type.specs.View.{exact_of}
use Rattle.const_eval.proofs.Powers.{none_power}
use Rattle.const_eval.proofs.Inverses.{none_inverse, some_negative, none_negative}
use Rattle.const_eval.proofs.whole_power.power.Goals as goal

pub returns-then-exponent-ge0-clause-none : goal.returns-then-exponent-ge0-clause-none
returns-then-exponent-ge0-clause-none c =
    let n : ℕ = nat_abs (to_z w32 (of_z w32 c.args.exponent)) in
    let e : c.args.exponent ≡ pos n = omega (arith, ints, c.if-exponent-ge0.true) in
    none_power c.repeated.result (exact_of c.args.base.now) n c.args.exponent e c.repeated.ensures.limits

pub returns-in-None-clause-none : goal.returns-in-None-clause-none
returns-in-None-clause-none c =
    let below : c.args.exponent <ℤ pos 0 = omega (arith, ints, c.if-exponent-ge0.false) in
    none_inverse c.args.base.now c.args.exponent below c.in-None.ensures.none

pub returns-in-Some-clause-some : goal.returns-in-Some-clause-some
returns-in-Some-clause-some c =
    let below : c.args.exponent <ℤ pos 0 = omega (arith, ints, c.if-exponent-ge0.false) in
    let n : ℕ = nat_abs (to_z w32 (of_z w32 (pos 0 -ℤ to_z w32 (of_z w32 c.args.exponent)))) in
    let e : c.args.exponent ≡ neg_ℤ (pos n) = omega (arith, ints, below, c.requires.least.le) in
    some_negative c.repeated-in-Some.result (exact_of c.args.base.now) c.in-Some.other n c.args.exponent e below c.in-Some.ensures.unit c.in-Some.ensures.same c.repeated-in-Some.ensures.same

pub returns-in-Some-clause-none : goal.returns-in-Some-clause-none
returns-in-Some-clause-none c =
    let below : c.args.exponent <ℤ pos 0 = omega (arith, ints, c.if-exponent-ge0.false) in
    let n : ℕ = nat_abs (to_z w32 (of_z w32 (pos 0 -ℤ to_z w32 (of_z w32 c.args.exponent)))) in
    let e : c.args.exponent ≡ neg_ℤ (pos n) = omega (arith, ints, below, c.requires.least.le) in
    none_negative c.repeated-in-Some.result (exact_of c.args.base.now) c.in-Some.other n c.args.exponent e below c.in-Some.ensures.unit c.in-Some.ensures.same c.repeated-in-Some.ensures.limits
