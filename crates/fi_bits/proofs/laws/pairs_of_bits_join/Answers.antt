use Rattle.fi_bits.proofs.Moves.{both, either, just_one}
use Rattle.fi_bits.proofs.laws.pairs_of_bits_join.Goals as goal

pub returns-clause-both : goal.returns-clause-both
returns-clause-both c = both

pub returns-clause-either : goal.returns-clause-either
returns-clause-either c = either

pub returns-clause-one : goal.returns-clause-one
returns-clause-one c = just_one
