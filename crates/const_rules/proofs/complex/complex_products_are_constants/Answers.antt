use Rattle.const_rules.proofs.ComplexFolds.{complex_multiplied_is}
use Rattle.const_rules.proofs.complex.complex_products_are_constants.Goals as goal

pub returns : goal.returns
returns c = complex_multiplied_is
