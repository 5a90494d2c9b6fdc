use Rattle.fi_rules.proofs.Numbers.{exponent_is, exponent_least, exponent_most}
use Rattle.fi_rules.proofs.whole.small_whole.Goals as goal

pub returns-clause-value : goal.returns-clause-value
returns-clause-value c = exponent_is c.args.c.now c.whole_exponent.result c.whole_exponent.ensures.some c.whole_exponent.ensures.none

pub returns-clause-least : goal.returns-clause-least
returns-clause-least c = exponent_least c.args.c.now c.whole_exponent.result c.whole_exponent.ensures.some

pub returns-clause-most : goal.returns-clause-most
returns-clause-most c = exponent_most c.args.c.now c.whole_exponent.result c.whole_exponent.ensures.some
