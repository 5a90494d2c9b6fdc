use Rattle.const_rules.proofs.ComplexFolds.{complex_subtracted_is}
use Rattle.const_rules.proofs.complex.complex_differences_are_constants.Goals as goal

pub returns : goal.returns
returns c = complex_subtracted_is
