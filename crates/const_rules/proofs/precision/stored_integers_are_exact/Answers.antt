use Rattle.const_rules.proofs.Stored.{stored_is}
use Rattle.const_rules.proofs.precision.stored_integers_are_exact.Goals as goal

pub returns : goal.returns
returns c = stored_is
