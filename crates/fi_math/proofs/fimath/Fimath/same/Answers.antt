use Rattle.std.proofs.Common.{◌∙◌}
use Rattle.fi_math.proofs.Equal.{derived_is}
use Rattle.fi_math.proofs.fimath.Fimath.same.Goals as goal

pub returns : goal.returns
returns c = c.eq.ensures ∙ derived_is c.args.self c.args.other
