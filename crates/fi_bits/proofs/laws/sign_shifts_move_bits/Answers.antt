use Rattle.fi_bits.proofs.Signs.{sign_moved, sign_signs, sign_zeros}
use Rattle.fi_bits.proofs.laws.sign_shifts_move_bits.Goals as goal

pub returns-clause-moved : goal.returns-clause-moved
returns-clause-moved c = sign_moved

pub returns-clause-signs : goal.returns-clause-signs
returns-clause-signs c = sign_signs

pub returns-clause-zeros : goal.returns-clause-zeros
returns-clause-zeros c = sign_zeros
