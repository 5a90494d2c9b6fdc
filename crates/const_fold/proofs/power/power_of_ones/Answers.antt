use Rattle.std.proofs.Common.{◌≡◌, sym, subst, to_z, of_z, arith}
use Rattle.std.specs.Prelude.{ℤ}
use Rattle.std.specs.Int.{w32}
use Rattle.std.proofs.lemmas.Int.{ints}
use Rattle.num_type.specs.Constants.{Exact}
use Rattle.const_eval.specs.Complex.{Complex}
use Rattle.const_eval.specs.Powers.{IsExponent, IsPowerOf, NoPowerOf}
use Rattle.const_eval.specs.Values.{number_at}
use Rattle.const_eval.proofs.Operated.{only_because}
use Rattle.const_fold.specs.Exponents.IsUnpowered.{Inexact, NoOperands}
use Rattle.const_fold.proofs.Raised.{first_place, no_exponent}
use Rattle.const_fold.proofs.power.power_of_ones.Goals as goal

pub at-requires : goal.at-requires
at-requires c = first_place c.args.a.now.shape c.requires.ones.0

pub at-requires-2 : goal.at-requires-2
at-requires-2 c = first_place c.args.b.now.shape c.requires.ones.1

pub power-requires-clause-least : goal.power-requires-clause-least
power-requires-clause-least c = omega (arith, ints, c.in-Some.ensures.some.least, c.in-Some.ensures.some.most)

pub power-requires-clause-most : goal.power-requires-clause-most
power-requires-clause-most c = omega (arith, ints, c.in-Some.ensures.some.least, c.in-Some.ensures.some.most)

pub returns-in-None-clause-refusal : goal.returns-in-None-clause-refusal
returns-in-None-clause-refusal c =
    only_because c.refused.result
    (λ r h. NoOperands (no_exponent c.args.a.now c.args.b.now (record { re = record { significand = c.at-2.result.re.m; exponent = c.at-2.result.re.e }; im = record { significand = c.at-2.result.im.m; exponent = c.at-2.result.im.e } }) c.at-2.ensures c.requires.ones.1 c.in-None.ensures.none) h)
    c.refused.ensures

pub returns-in-None-power-clause-refusal : goal.returns-in-None-power-clause-refusal
returns-in-None-power-clause-refusal c =
    let n : ℤ = to_z w32 (of_z w32 c.in-Some.exponent) in
    let e : n ≡ c.in-Some.exponent = omega (arith, ints, c.in-Some.ensures.some.least, c.in-Some.ensures.some.most) in
    let fits : IsExponent (number_at c.args.b.now 0).re n =
    subst (λ (z : ℤ). IsExponent (number_at c.args.b.now 0).re z) (sym e) (subst (λ (z : Complex). IsExponent z.re c.in-Some.exponent) c.at-2.ensures c.in-Some.ensures.some) in
    let none : NoPowerOf (number_at c.args.a.now 0).re n = subst (λ (z : Complex). NoPowerOf z.re n) c.at.ensures c.in-None-power.ensures.none in
    only_because c.refused-in-None-power.result (λ r h. Inexact c.requires.operands c.requires.ones n fits none h) c.refused-in-None-power.ensures

pub returns-in_ok-made-in-Some-power-clause-value : goal.returns-in_ok-made-in-Some-power-clause-value
returns-in_ok-made-in-Some-power-clause-value c =
    let n : ℤ = to_z w32 (of_z w32 c.in-Some.exponent) in
    let e : n ≡ c.in-Some.exponent = omega (arith, ints, c.in-Some.ensures.some.least, c.in-Some.ensures.some.most) in
    record {
      operands = c.requires.operands;
      ones = c.requires.ones;
      one = c.in_ok-made-in-Some-power.ensures.one;
      real = c.in_ok-made-in-Some-power.ensures.real;
      exponent = n;
      whole = subst (λ (z : ℤ). IsExponent (number_at c.args.b.now 0).re z) (sym e) (subst (λ (z : Complex). IsExponent z.re c.in-Some.exponent) c.at-2.ensures c.in-Some.ensures.some);
      power = subst (λ (x : Exact). IsPowerOf (number_at c.args.a.now 0).re n x) (sym c.in_ok-made-in-Some-power.ensures.number) (subst (λ (z : Complex). IsPowerOf z.re n (record { significand = c.in-Some-power.value.m; exponent = c.in-Some-power.value.e })) c.at.ensures c.in-Some-power.ensures.some);
    }
