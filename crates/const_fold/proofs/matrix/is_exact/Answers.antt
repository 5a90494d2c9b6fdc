use Rattle.std.proofs.Common.{refl}
use Rattle.num_type.proofs.Constants.{not_true}
use Rattle.const_fold.proofs.matrix.is_exact.Goals as goal

pub returns-in-None : goal.returns-in-None
returns-in-None c = (λ t. absurd (not_true t), λ all. absurd (not_true (c.in-None.ensures.steps.1 all)))

pub returns-in-Some : goal.returns-in-Some
returns-in-Some c = (λ t. c.in-Some.ensures.steps.0 refl, λ all. refl)
