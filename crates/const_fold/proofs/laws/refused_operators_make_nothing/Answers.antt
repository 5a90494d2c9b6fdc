use Rattle.const_fold.proofs.Outcomes.{no_value}
use Rattle.const_fold.proofs.laws.refused_operators_make_nothing.Goals as goal

pub returns : goal.returns
returns c = λ op shown a b d at r h k. no_value op shown a b d at r h k
