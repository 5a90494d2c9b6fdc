use Rattle.std.specs.Prelude.{◌+ℤ◌}
use Rattle.num_type.specs.View.{type_of}
use Rattle.fi_quant.specs.Numbers.{fitted}
use Rattle.fi_quant.proofs.Once.{fit_once}
use Rattle.fi_quant.proofs.Exist.{fitted_is}
use Rattle.fi_quant.proofs.fitting.fit_sum.Goals as goal

pub returns-clause-value : goal.returns-clause-value
returns-clause-value c = fit_once c.args.action (type_of c.args.t) (c.args.a +ℤ c.args.b) c.fit_parts.result (fitted c.args.action (type_of c.args.t) (c.args.a +ℤ c.args.b)) c.args.t.one_bit c.fit_parts.ensures (fitted_is c.args.action (type_of c.args.t) (c.args.a +ℤ c.args.b) c.args.t.one_bit)
