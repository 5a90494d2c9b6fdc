use Rattle.num_type.specs.Types.{word_limit}
use Rattle.num_type.specs.View.{type_of}
use Rattle.fi_math.specs.Full.{full_sum_of}
use Rattle.fi_math.specs.Made.{limited}
use Rattle.fi_math.specs.Rules.{sum_by}
use Rattle.fi_math.specs.View.{made_of}
use Rattle.fi_math.proofs.Limits.{next_is}
use Rattle.fi_math.proofs.types.addends_type.Goals as goal

pub returns-in-Ok : goal.returns-in-Ok
returns-in-Ok c = next_is (limited word_limit (full_sum_of c.args.n (type_of c.args.a))) (type_of c.in-Ok.full) (sum_by c.args.m.now) (made_of c.sum_mode_type.result) c.in-Ok.ensures c.sum_mode_type.ensures
