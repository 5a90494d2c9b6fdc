use Rattle.const_rules.proofs.LiteralValues.{literal_of_is}
use Rattle.const_rules.proofs.literals.literals_are_constants.Goals as goal

pub returns : goal.returns
returns c = literal_of_is
