use Rattle.fi_quant.proofs.Once.{fit_once}
use Rattle.fi_quant.proofs.Exist.{fitted_is}
use Rattle.fi_quant.proofs.laws.each_fits_once.Goals as goal

pub returns-clause-some : goal.returns-clause-some
returns-clause-some c = fitted_is

pub returns-clause-one : goal.returns-clause-one
returns-clause-one c = fit_once
