use Rattle.const_rules.proofs.ComplexFolds.{complex_added_is}
use Rattle.const_rules.proofs.complex.complex_sums_are_constants.Goals as goal

pub returns : goal.returns
returns c = complex_added_is
