use Rattle.fi_complex.proofs.Accumulations.{exact, inside}
use Rattle.fi_complex.proofs.laws.full_accumulations_are_exact.Goals as goal

pub returns-clause-value : goal.returns-clause-value
returns-clause-value c = exact

pub returns-clause-inside : goal.returns-clause-inside
returns-clause-inside c = inside
