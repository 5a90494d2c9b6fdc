use Rattle.const_rules.proofs.Folds.{negated_constant, negated_same}
use Rattle.const_rules.proofs.operators.negatives_are_constants.Goals as goal

pub returns-clause-limits : goal.returns-clause-limits
returns-clause-limits c = negated_constant

pub returns-clause-same : goal.returns-clause-same
returns-clause-same c = negated_same
