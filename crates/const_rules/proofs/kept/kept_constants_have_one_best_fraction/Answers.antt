use Rattle.const_rules.proofs.KeptAnswers.{kept_best_is}
use Rattle.const_rules.proofs.kept.kept_constants_have_one_best_fraction.Goals as goal

pub returns : goal.returns
returns c = kept_best_is
