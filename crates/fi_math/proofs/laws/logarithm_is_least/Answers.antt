use Rattle.fi_math.proofs.Logs.{log2_holds, log2_least}
use Rattle.fi_math.proofs.laws.logarithm_is_least.Goals as goal

pub returns-clause-holds : goal.returns-clause-holds
returns-clause-holds c = log2_holds

pub returns-clause-least : goal.returns-clause-least
returns-clause-least c = log2_least
