use Rattle.fi_bits.proofs.Moves.{second_kept, first_kept}
use Rattle.fi_bits.proofs.laws.concatenations_keep_bits.Goals as goal

pub returns-clause-second : goal.returns-clause-second
returns-clause-second c = second_kept

pub returns-clause-first : goal.returns-clause-first
returns-clause-first c = first_kept
