use Rattle.fi_quant.specs.Numbers.{rounded}
use Rattle.fi_quant.proofs.Once.{rounded_once}
use Rattle.fi_quant.proofs.Exist.{rounded_is}
use Rattle.fi_quant.proofs.rounding.round.Goals as goal

pub returns-clause-value : goal.returns-clause-value
returns-clause-value c = rounded_once c.args.method c.args.z c.args.k c.round_size.result (rounded c.args.method c.args.z c.args.k) c.round_size.ensures (rounded_is c.args.method c.args.z c.args.k)
