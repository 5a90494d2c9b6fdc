use Rattle.const_rules.proofs.Folds.{multiplied_is, multiplied_once}
use Rattle.const_rules.proofs.operators.products_are_constants.Goals as goal

pub returns-clause-value : goal.returns-clause-value
returns-clause-value c = multiplied_is

pub returns-clause-same : goal.returns-clause-same
returns-clause-same c = multiplied_once
