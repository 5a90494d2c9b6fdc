use Rattle.std.proofs.Common.{◌≡◌, ◌∙◌, ap, map, to_z, of_z, arith}
use Rattle.std.specs.Int.{w32}
use Rattle.std.specs.Prelude.{ℤ}
use Rattle.std.proofs.lemmas.Int.{ints, clamps}
use Rattle.std.proofs.lemmas.Option.{IfSome_then}
use Rattle.num_type.specs.Types.{NumericType}
use Rattle.num_type.specs.View.{exact_of, type_of}
use Rattle.const_rules.specs.BestFraction.{best_fraction_of}
use Rattle.const_rules.proofs.KeptAnswers.{kept_best_is}
use Rattle.fi_math.specs.Made.{limited}
use Rattle.fi_rules.specs.Pairs.{beside_type}
use Rattle.fi_values.specs.Sums.{made}
use Rattle.eval_math.proofs.Alongside.{made_type}
use Rattle.eval_math.proofs.beside.best_type.Goals as goal

pub returns-clause-value : goal.returns-clause-value
returns-clause-value c =
    let r : ℤ = c.best_fraction-fraction.result in
    let f : ℤ = to_z w32 (of_z w32 r) in
    let e : f ≡ r = omega (arith, ints, clamps, c.best_fraction-fraction.type_inv) in
    let b : f ≡ best_fraction_of c.args.t.signed c.args.t.word (map exact_of c.args.constants.now) =
    e
    ∙ kept_best_is c.signed.result c.word.result c.args.constants.now r c.word.ensures.least c.best_fraction-fraction.ensures
    ∙ (λ i. best_fraction_of (c.signed.ensures i) (c.word.ensures.value i) (map exact_of c.args.constants.now)) in
    let x : NumericType = record { signed = c.signed-2.result; word = c.word-2.result; fraction = f } in
    let same : x ≡ beside_type (type_of c.args.t) (map exact_of c.args.constants.now) = λ i. record { signed = c.signed-2.ensures i; word = c.word-2.ensures.value i; fraction = b i } in
    made_type c.make.result x c.word-2.ensures.least c.word-2.ensures.most c.make.ensures.limits c.make.ensures.parts ∙ ap (λ (y : NumericType). made (limited 64 y)) same

pub returns-clause-same : goal.returns-clause-same
returns-clause-same c =
    let r : ℤ = c.best_fraction-fraction.result in
    let f : ℤ = to_z w32 (of_z w32 r) in
    let e : f ≡ r = omega (arith, ints, clamps, c.best_fraction-fraction.type_inv) in
    let b : f ≡ best_fraction_of c.args.t.signed c.args.t.word (map exact_of c.args.constants.now) =
    e
    ∙ kept_best_is c.signed.result c.word.result c.args.constants.now r c.word.ensures.least c.best_fraction-fraction.ensures
    ∙ (λ i. best_fraction_of (c.signed.ensures i) (c.word.ensures.value i) (map exact_of c.args.constants.now)) in
    let x : NumericType = record { signed = c.signed-2.result; word = c.word-2.result; fraction = f } in
    let same : x ≡ beside_type (type_of c.args.t) (map exact_of c.args.constants.now) = λ i. record { signed = c.signed-2.ensures i; word = c.word-2.ensures.value i; fraction = b i } in
    IfSome_then c.make.result c.make.ensures.parts (λ u p. p ∙ same)
