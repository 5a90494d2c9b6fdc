use Rattle.std.proofs.Common.{refl}
use Rattle.num_type.proofs.Constants.{not_true}
use Rattle.const_fold.proofs.power.is_exponent.Goals as goal

pub returns-in-None : goal.returns-in-None
returns-in-None c = (λ t. absurd (not_true t), λ p. absurd (c.in-None.ensures.none p.0 p.1))

pub returns-in-Some : goal.returns-in-Some
returns-in-Some c = (λ t. (c.in-Some.field-0, c.in-Some.ensures.some), λ p. refl)
