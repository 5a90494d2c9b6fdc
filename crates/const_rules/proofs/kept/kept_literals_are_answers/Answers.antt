use Rattle.const_rules.proofs.KeptAnswers.{kept_literal_is, no_literal_is}
use Rattle.const_rules.proofs.kept.kept_literals_are_answers.Goals as goal

pub returns-clause-some : goal.returns-clause-some
returns-clause-some c = kept_literal_is

pub returns-clause-none : goal.returns-clause-none
returns-clause-none c = no_literal_is
