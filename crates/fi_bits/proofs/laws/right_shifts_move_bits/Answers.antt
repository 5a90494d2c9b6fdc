use Rattle.fi_bits.proofs.Moves.{right_moved, right_zeros}
use Rattle.fi_bits.proofs.laws.right_shifts_move_bits.Goals as goal

pub returns-clause-moved : goal.returns-clause-moved
returns-clause-moved c = right_moved

pub returns-clause-zeros : goal.returns-clause-zeros
returns-clause-zeros c = right_zeros
