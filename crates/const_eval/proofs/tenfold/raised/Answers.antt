use Rattle.std.proofs.Common.{◌≡◌, ◌*◌, ◌^◌, ◌≤◌, to_z, ℕ, ap, arith}
use Rattle.std.specs.Prelude.{pos}
use Rattle.std.specs.Int.{w64, w128}
use Rattle.std.proofs.lemmas.Int.{ints, fits_signed_from_abs}
use Rattle.std.proofs.lemmas.Nat.{mul-le}
use Rattle.const_eval.proofs.Zeros.{five_most}
use Rattle.const_eval.proofs.Fives.{raised_some, raised_none}
use Rattle.const_eval.proofs.tenfold.raised.Goals as goal

pub power-requires-clause-few : goal.power-requires-clause-few
power-requires-clause-few c = omega (arith, five_most c.args.tens c.requires.most)

pub overflow_mul-digits : goal.overflow_mul-digits
overflow_mul-digits c =
    let p : c.power.result ≤ 2384185791015625 = omega (arith, five_most c.args.tens c.requires.most, c.power.ensures) in
    omega (arith, mul-le c.args.digits c.power.result (10 ^ 17) 2384185791015625 (omega (arith, c.requires.few)) p)

pub overflow_cast-digits-2 : goal.overflow_cast-digits-2
overflow_cast-digits-2 c =
    let p : c.power.result ≤ 2384185791015625 = omega (arith, five_most c.args.tens c.requires.most, c.power.ensures) in
    fits_signed_from_abs w128 (pos (c.args.digits * c.power.result)) (omega (arith, mul-le c.args.digits c.power.result (10 ^ 17) 2384185791015625 (omega (arith, c.requires.few)) p))

pub returns-clause-value : goal.returns-clause-value
returns-clause-value c =
    let p : c.power.result ≤ 2384185791015625 = omega (arith, five_most c.args.tens c.requires.most, c.power.ensures) in
    let few : c.args.digits * c.power.result ≤ 10 ^ 17 * 2384185791015625 = mul-le c.args.digits c.power.result (10 ^ 17) 2384185791015625 (omega (arith, c.requires.few)) p in
    let m : to_z w128 (c.args.digits * c.power.result) ≡ pos (c.args.digits * 5 ^ c.args.tens) = omega (arith, ints, few, ap (λ (k : ℕ). c.args.digits * k) c.power.ensures) in
    raised_some c.reduced.result c.args.digits c.args.tens (to_z w128 (c.args.digits * c.power.result)) (to_z w64 c.args.tens) m (omega (arith, ints, c.requires.most)) c.reduced.ensures.same

pub returns-clause-none : goal.returns-clause-none
returns-clause-none c =
    let p : c.power.result ≤ 2384185791015625 = omega (arith, five_most c.args.tens c.requires.most, c.power.ensures) in
    let few : c.args.digits * c.power.result ≤ 10 ^ 17 * 2384185791015625 = mul-le c.args.digits c.power.result (10 ^ 17) 2384185791015625 (omega (arith, c.requires.few)) p in
    let m : to_z w128 (c.args.digits * c.power.result) ≡ pos (c.args.digits * 5 ^ c.args.tens) = omega (arith, ints, few, ap (λ (k : ℕ). c.args.digits * k) c.power.ensures) in
    raised_none c.reduced.result c.args.digits c.args.tens (to_z w128 (c.args.digits * c.power.result)) (to_z w64 c.args.tens) m (omega (arith, ints, c.requires.most)) c.reduced.ensures.limits
