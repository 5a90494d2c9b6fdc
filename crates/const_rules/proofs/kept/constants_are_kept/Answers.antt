use Rattle.const_rules.proofs.KeptAnswers.{kept_form, kept_limits, kept_of}
use Rattle.const_rules.proofs.kept.constants_are_kept.Goals as goal

pub returns-clause-form : goal.returns-clause-form
returns-clause-form c = kept_form

pub returns-clause-limits : goal.returns-clause-limits
returns-clause-limits c = kept_limits

pub returns-clause-all : goal.returns-clause-all
returns-clause-all c = kept_of
