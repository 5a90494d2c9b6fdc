use Rattle.const_rules.proofs.BestFraction.{best_fraction_is, best_fraction_of_kept}
use Rattle.const_rules.proofs.precision.numbers_have_a_best_fraction.Goals as goal

pub returns-clause-numbers : goal.returns-clause-numbers
returns-clause-numbers c = best_fraction_is

pub returns-clause-kept : goal.returns-clause-kept
returns-clause-kept c = best_fraction_of_kept
