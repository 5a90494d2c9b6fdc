use Rattle.std.proofs.Common.{◌≡◌, ◌∙◌, to_z, of_z, arith}
use Rattle.std.specs.Int.{w32}
use Rattle.std.specs.Prelude.{ℤ, [], ◌∷◌}
use Rattle.std.proofs.lemmas.Int.{ints, clamps}
use Rattle.num_type.specs.View.{exact_of}
use Rattle.const_rules.specs.BestFraction.{best_fraction_of}
use Rattle.fi_rules.specs.View.{shown_view}
use Rattle.fi_rules.proofs.Meetings.{beside_some, beside_none}
use Rattle.fi_rules.proofs.beside.beside.Goals as goal

pub returns-in-Some : goal.returns-in-Some
returns-in-Some c =
    let f : ℤ = to_z w32 (of_z w32 c.best_of-fraction.result) in
    let e : f ≡ c.best_of-fraction.result = omega (arith, ints, clamps, c.best_of-fraction.type_inv) in
    let b : f ≡ best_fraction_of c.args.t.signed c.args.t.word (exact_of c.args.c ∷ []) =
    e ∙ c.best_of-fraction.ensures ∙ (λ i. best_fraction_of (c.signed.ensures i) (c.word.ensures.value i) (exact_of c.args.c ∷ [])) in
    beside_some c.args.t c.args.c f c.in-Some.z (shown_view c.args.shown) b c.in-Some.ensures

pub returns-in-None : goal.returns-in-None
returns-in-None c =
    let f : ℤ = to_z w32 (of_z w32 c.best_of-fraction.result) in
    let e : f ≡ c.best_of-fraction.result = omega (arith, ints, clamps, c.best_of-fraction.type_inv) in
    let b : f ≡ best_fraction_of c.args.t.signed c.args.t.word (exact_of c.args.c ∷ []) =
    e ∙ c.best_of-fraction.ensures ∙ (λ i. best_fraction_of (c.signed.ensures i) (c.word.ensures.value i) (exact_of c.args.c ∷ [])) in
    beside_none c.args.t c.args.c f (shown_view c.args.shown) b c.in-None.ensures
