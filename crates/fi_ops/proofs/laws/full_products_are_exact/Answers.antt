use Rattle.fi_ops.proofs.Full.{product_exact, product_in_range}
use Rattle.fi_ops.proofs.laws.full_products_are_exact.Goals as goal

pub returns-clause-value : goal.returns-clause-value
returns-clause-value c = product_exact

pub returns-clause-inside : goal.returns-clause-inside
returns-clause-inside c = product_in_range
