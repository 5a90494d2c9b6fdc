use Rattle.const_rules.proofs.Folds.{added_is, added_once}
use Rattle.const_rules.proofs.operators.sums_are_constants.Goals as goal

pub returns-clause-value : goal.returns-clause-value
returns-clause-value c = added_is

pub returns-clause-same : goal.returns-clause-same
returns-clause-same c = added_once
