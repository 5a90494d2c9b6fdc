use Rattle.fi_bits.proofs.Moves.{turned}
use Rattle.fi_bits.proofs.laws.complements_turn_bits.Goals as goal

pub returns : goal.returns
returns c = turned
