use Rattle.const_rules.proofs.KeptAnswers.{kept_constant_is}
use Rattle.const_rules.proofs.kept.kept_constants_are_answers.Goals as goal

pub returns : goal.returns
returns c = kept_constant_is
