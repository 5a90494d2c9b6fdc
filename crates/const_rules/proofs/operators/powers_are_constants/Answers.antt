use Rattle.const_rules.proofs.Folds.{power_is, power_once, power_zero}
use Rattle.const_rules.proofs.operators.powers_are_constants.Goals as goal

pub returns-clause-value : goal.returns-clause-value
returns-clause-value c = power_is

pub returns-clause-same : goal.returns-clause-same
returns-clause-same c = power_once

pub returns-clause-zero : goal.returns-clause-zero
returns-clause-zero c = power_zero
