use Rattle.fi_ops.proofs.Full.{sum_exact, sum_in_range}
use Rattle.fi_ops.proofs.laws.full_sums_are_exact.Goals as goal

pub returns-clause-value : goal.returns-clause-value
returns-clause-value c = sum_exact

pub returns-clause-inside : goal.returns-clause-inside
returns-clause-inside c = sum_in_range
