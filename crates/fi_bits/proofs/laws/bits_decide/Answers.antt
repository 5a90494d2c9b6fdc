use Rattle.fi_bits.proofs.Patterns.{decided}
use Rattle.fi_bits.proofs.laws.bits_decide.Goals as goal

pub returns : goal.returns
returns c = decided
