use Rattle.std.proofs.Common.{◌∙◌}
use Rattle.std.proofs.Math.Nat.{mod-eq_of_lt}
use Rattle.fi_bits.proofs.Patterns.{bits_below, bits_same, bits_back, with_inside, bits_there}
use Rattle.fi_bits.proofs.laws.bits_stand_for_integers.Goals as goal

pub returns-clause-below : goal.returns-clause-below
returns-clause-below c = bits_below

pub returns-clause-same : goal.returns-clause-same
returns-clause-same c = bits_same

pub returns-clause-back : goal.returns-clause-back
returns-clause-back c = bits_back

pub returns-clause-inside : goal.returns-clause-inside
returns-clause-inside c = with_inside

pub returns-clause-there : goal.returns-clause-there
returns-clause-there c = λ t u one h. bits_there t u one ∙ mod-eq_of_lt h
