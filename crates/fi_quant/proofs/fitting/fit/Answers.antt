use Rattle.num_type.specs.View.{type_of}
use Rattle.fi_quant.proofs.Signs.{part_is}
use Rattle.fi_quant.specs.Numbers.{fitted}
use Rattle.fi_quant.proofs.Fits.{fit_exact}
use Rattle.fi_quant.proofs.Once.{fit_once}
use Rattle.fi_quant.proofs.Exist.{fitted_is, fit_inside}
use Rattle.fi_quant.proofs.fitting.fit.Goals as goal

pub returns-clause-meets : goal.returns-clause-meets
returns-clause-meets c = fit_exact c.args.action (type_of c.args.t) c.is_negative.result c.magnitude.result c.args.z c.fit_wide.result (part_is c.args.z c.is_negative.result c.magnitude.result c.is_negative.ensures c.magnitude.ensures) c.fit_wide.ensures

pub returns-clause-value : goal.returns-clause-value
returns-clause-value c = fit_once c.args.action (type_of c.args.t) c.args.z c.fit_wide.result (fitted c.args.action (type_of c.args.t) c.args.z) c.args.t.one_bit (returns-clause-meets c) (fitted_is c.args.action (type_of c.args.t) c.args.z c.args.t.one_bit)

pub returns-clause-inside : goal.returns-clause-inside
returns-clause-inside c = fit_inside c.args.action (type_of c.args.t) c.args.z c.fit_wide.result (returns-clause-meets c)
