use Rattle.std.proofs.Common.{◌∙◌}
use Rattle.fi_rules.proofs.Taken.{fraction_is}
use Rattle.fi_rules.proofs.arguments.fraction_in.Goals as goal

pub returns-in-Number : goal.returns-in-Number
returns-in-Number c = c.between.ensures.value ∙ fraction_is c.args.t.now c.in-Number.c c.in-Number.is
