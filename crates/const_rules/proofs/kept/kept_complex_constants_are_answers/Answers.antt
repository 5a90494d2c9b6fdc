use Rattle.const_rules.proofs.KeptAnswers.{kept_sum_is, kept_difference_is, kept_product_is}
use Rattle.const_rules.proofs.kept.kept_complex_constants_are_answers.Goals as goal

pub returns-clause-sum : goal.returns-clause-sum
returns-clause-sum c = kept_sum_is

pub returns-clause-difference : goal.returns-clause-difference
returns-clause-difference c = kept_difference_is

pub returns-clause-product : goal.returns-clause-product
returns-clause-product c = kept_product_is
