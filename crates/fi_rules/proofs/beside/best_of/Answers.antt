use Rattle.std.proofs.Common.{◌≡◌, ◌∙◌, to_z, of_z, arith}
use Rattle.std.specs.Int.{w32}
use Rattle.std.specs.Prelude.{[], ◌∷◌}
use Rattle.std.proofs.lemmas.Int.{ints, clamps}
use Rattle.const_rules.proofs.KeptAnswers.{kept_best_is}
use Rattle.fi_rules.proofs.beside.best_of.Goals as goal

pub returns : goal.returns
returns c =
    let e : to_z w32 (of_z w32 c.best_fraction.result) ≡ c.best_fraction.result = omega (arith, ints, clamps, c.best_fraction.type_inv) in
    e ∙ kept_best_is c.args.signed c.args.word (c.args.c ∷ []) c.best_fraction.result c.requires.some c.best_fraction.ensures
