use Rattle.std.proofs.Common.{◌∙◌, ap, to_z, of_z}
use Rattle.std.specs.Int.{w32}
use Rattle.std.specs.Prelude.{ℤ}
use Rattle.std.proofs.lemmas.Int.{to_z-of_z}
use Rattle.num_type.specs.View.{exact_of}
use Rattle.const_rules.specs.Folds.{power}
use Rattle.const_rules.proofs.KeptAnswers.{kept_power_is}
use Rattle.fi_rules.proofs.fold.raised.Goals as goal

pub returns : goal.returns
returns c =
    kept_power_is (exact_of c.args.x) (to_z w32 (of_z w32 c.args.exponent)) c.power.result c.power.ensures.some c.power.ensures.none
    ∙ ap (λ (n : ℤ). power (exact_of c.args.x) n) (to_z-of_z w32 c.args.exponent c.ranges.exponent)
