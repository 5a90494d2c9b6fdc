use Rattle.const_rules.proofs.Folds.{subtracted_is, subtracted_once}
use Rattle.const_rules.proofs.operators.differences_are_constants.Goals as goal

pub returns-clause-value : goal.returns-clause-value
returns-clause-value c = subtracted_is

pub returns-clause-same : goal.returns-clause-same
returns-clause-same c = subtracted_once
