use Rattle.num_type.proofs.Constants.{not_true}
use Rattle.fi_rules.proofs.Numbers.{sixteen_constant, sixteen_word}
use Rattle.fi_rules.proofs.whole.sixteen.Goals as goal

pub returns-in-Some : goal.returns-in-Some
returns-in-Some c = sixteen_word c.in-Some.c c.in-Some.ensures.same

pub returns-in-None : goal.returns-in-None
returns-in-None c = absurd (not_true (c.in-None.ensures.limits.1 sixteen_constant))
