use Rattle.fi_complex.proofs.Accumulations.{sum_stepped}
use Rattle.fi_complex.proofs.laws.sum_types_have_steps.Goals as goal

pub returns : goal.returns
returns c = sum_stepped
