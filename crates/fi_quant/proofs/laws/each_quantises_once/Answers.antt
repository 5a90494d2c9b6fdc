use Rattle.fi_quant.proofs.Once.{quantised_once}
use Rattle.fi_quant.proofs.Exist.{quantised_is}
use Rattle.fi_quant.proofs.laws.each_quantises_once.Goals as goal

pub returns-clause-some : goal.returns-clause-some
returns-clause-some c = quantised_is

pub returns-clause-one : goal.returns-clause-one
returns-clause-one c = quantised_once
