use Rattle.std.proofs.Common.{◌≡◌, to_z, of_z, refl, arith}
use Rattle.std.specs.Prelude.{pos}
use Rattle.std.specs.Int.{w32}
use Rattle.std.proofs.lemmas.Int.{ints}
use Rattle.num_type.specs.Precision.{counted, bits_beside_sign, IsHeld}
use Rattle.num_type.specs.View.{exact_of}
use Rattle.num_type.specs.declared.dyadic.Dyadic.{Dyadic}
use Rattle.num_type.proofs.Held.{step, joined, best_some, best_none}
use Rattle.num_type.proofs.precision.best_fraction.Goals as goal

pub loop-value-init : goal.loop-value-init
loop-value-init c = record { held = λ fraction. (λ all. (tt, all), λ both. both.1); zero = (λ all. (refl, all), λ both. both.1) }

pub loop-value-preserved : goal.loop-value-preserved
loop-value-preserved c =
    let values = c.args.values.now in
    let i = c.loop-value.value-index in
    let v = c.value-item.result in
    record {
      held = λ fraction.
          joined (c.loop-value.invariant.held fraction) (step (λ (d : Dyadic). IsHeld c.args.signed c.args.word fraction (exact_of d)) values i v c.loop-value-test.true c.value-item.is) (c.greatest_fraction.ensures.held fraction) (c.lesser-best.ensures.both fraction);
      zero =
          let z = c.greatest_fraction.ensures.zero in
          joined c.loop-value.invariant.zero (step (λ (d : Dyadic). counted c.args.signed d.m ≡ pos 0) values i v c.loop-value-test.true c.value-item.is) (z.1, z.0) c.lesser-best.ensures.none;
    }

pub returns-in-Some : goal.returns-in-Some
returns-in-Some c =
    best_some c.args.signed c.args.word c.args.values.now c.loop-value.value-index c.loop-value.best c.in-Some.fraction (to_z w32 (of_z w32 c.in-Some.fraction)) c.loop-value-test.false c.in-Some.is (omega (arith, ints)) c.loop-value.invariant.held c.loop-value.invariant.zero

pub returns-in-None : goal.returns-in-None
returns-in-None c =
    let f : to_z w32 c.beside_sign.result ≡ pos (bits_beside_sign c.args.signed c.args.word) = omega (arith, ints, c.beside_sign.ensures.value, c.beside_sign.ensures.few) in
    best_none c.args.signed c.args.word c.args.values.now c.loop-value.value-index c.loop-value.best (to_z w32 c.beside_sign.result) c.loop-value-test.false c.in-None.is f c.loop-value.invariant.zero
