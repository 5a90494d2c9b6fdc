use Rattle.fi_bits.proofs.Moves.{slice_kept}
use Rattle.fi_bits.proofs.laws.slices_keep_bits.Goals as goal

pub returns : goal.returns
returns c = slice_kept
