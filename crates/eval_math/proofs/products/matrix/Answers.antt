use Rattle.std.proofs.Common.{◌∙◌}
use Rattle.eval_math.proofs.Accumulated.{matrix_of_fis}
use Rattle.eval_math.proofs.products.matrix.Goals as goal

pub returns-in_ok-r-in-None : goal.returns-in_ok-r-in-None
returns-in_ok-r-in-None c = c.in_ok-r-in-None.ensures ∙ matrix_of_fis c.args.x.now c.args.y.now c.in-None.ensures.none
