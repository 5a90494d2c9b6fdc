use Rattle.const_rules.proofs.KeptAnswers.{kept_power_is}
use Rattle.const_rules.proofs.kept.kept_powers_are_answers.Goals as goal

pub returns : goal.returns
returns c = kept_power_is
