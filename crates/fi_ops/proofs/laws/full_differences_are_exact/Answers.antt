use Rattle.fi_ops.proofs.Full.{difference_full, difference_exact, difference_in_range}
use Rattle.fi_ops.proofs.laws.full_differences_are_exact.Goals as goal

pub returns-clause-value : goal.returns-clause-value
returns-clause-value c = difference_full

pub returns-clause-exact : goal.returns-clause-exact
returns-clause-exact c = difference_exact

pub returns-clause-inside : goal.returns-clause-inside
returns-clause-inside c = difference_in_range
