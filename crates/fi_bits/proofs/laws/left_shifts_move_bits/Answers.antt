use Rattle.fi_bits.proofs.Moves.{left_moved, left_zeros}
use Rattle.fi_bits.proofs.laws.left_shifts_move_bits.Goals as goal

pub returns-clause-moved : goal.returns-clause-moved
returns-clause-moved c = left_moved

pub returns-clause-zeros : goal.returns-clause-zeros
returns-clause-zeros c = left_zeros
