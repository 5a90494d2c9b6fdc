use Rattle.std.proofs.Common.{◌∙◌}
use Rattle.eval_math.proofs.Apart.{of_fis_are}
use Rattle.eval_math.proofs.values.arithmetic.Goals as goal

pub returns-in_ok-r-in-None : goal.returns-in_ok-r-in-None
returns-in_ok-r-in-None c = c.in_ok-r-in-None.ensures ∙ of_fis_are c.args.work c.args.x.now c.args.y.now c.in-None.ensures.none
