use Rattle.std.proofs.Common.{◌≡◌, ap, ◌∙◌, arith, rules, to_z, of_z, w64}
use Rattle.std.specs.Prelude.{ℤ}
use Rattle.std.proofs.lemmas.Int.{ints}
use Rattle.num_type.specs.View.{exact_of}
use Rattle.fi_values.specs.Subscripts.{place_of}
use Rattle.eval_array.proofs.Bounds.{place_missing, place_there}
use Rattle.eval_array.proofs.subscripts.number_place.Goals as goal

pub returns-in-None-clause-value : goal.returns-in-None-clause-value
returns-in-None-clause-value c = place_missing c.args.extent (exact_of c.args.c) c.requires c.in-None.ensures

pub returns-in-Some-clause-value : goal.returns-in-Some-clause-value
returns-in-Some-clause-value c =
    let e : to_z w64 (of_z w64 c.in-Some.z) ≡ c.in-Some.z = first_of (search rules, omega (arith, ints)) in
    c.place_of.ensures.value ∙ ap (λ (y : ℤ). place_of c.args.extent y) e ∙ place_there c.args.extent (exact_of c.args.c) c.in-Some.z c.in-Some.ensures
