use Rattle.const_rules.proofs.Stored.{held_is_stored, stored_in_is}
use Rattle.const_rules.proofs.precision.types_store_numbers.Goals as goal

pub returns-clause-held : goal.returns-clause-held
returns-clause-held c = held_is_stored

pub returns-clause-stored : goal.returns-clause-stored
returns-clause-stored c = stored_in_is
