use Rattle.const_rules.proofs.ComplexFolds.{complex_negated_form, complex_negated_constant}
use Rattle.const_rules.proofs.complex.complex_negatives_are_constants.Goals as goal

pub returns-clause-form : goal.returns-clause-form
returns-clause-form c = complex_negated_form

pub returns-clause-limits : goal.returns-clause-limits
returns-clause-limits c = complex_negated_constant
