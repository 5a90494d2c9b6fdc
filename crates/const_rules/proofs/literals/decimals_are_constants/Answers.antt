use Rattle.const_rules.proofs.LiteralValues.{decimal_is}
use Rattle.const_rules.proofs.literals.decimals_are_constants.Goals as goal

pub returns : goal.returns
returns c = decimal_is
