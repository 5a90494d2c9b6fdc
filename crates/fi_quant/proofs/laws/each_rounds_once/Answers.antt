use Rattle.fi_quant.proofs.Once.{rounded_once}
use Rattle.fi_quant.proofs.Exist.{rounded_is}
use Rattle.fi_quant.proofs.laws.each_rounds_once.Goals as goal

pub returns-clause-some : goal.returns-clause-some
returns-clause-some c = rounded_is

pub returns-clause-one : goal.returns-clause-one
returns-clause-one c = rounded_once
