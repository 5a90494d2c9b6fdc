use Rattle.const_rules.proofs.Stored.{whole_within_is}
use Rattle.const_rules.proofs.precision.whole_numbers_are_read.Goals as goal

pub returns : goal.returns
returns c = whole_within_is
