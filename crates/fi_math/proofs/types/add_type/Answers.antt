use Rattle.num_type.specs.Types.{word_limit}
use Rattle.num_type.specs.View.{type_of}
use Rattle.fi_math.specs.Full.{full_sum}
use Rattle.fi_math.specs.Made.{limited}
use Rattle.fi_math.specs.Rules.{add_made, sum_by}
use Rattle.fi_math.specs.View.{made_of}
use Rattle.fi_math.proofs.Limits.{next_is}
use Rattle.fi_math.proofs.types.add_type.Goals as goal

pub returns-in-Ok : goal.returns-in-Ok
unfolding add_made
returns-in-Ok c = next_is (limited word_limit (full_sum (type_of c.args.a) (type_of c.args.b))) (type_of c.in-Ok.full) (sum_by c.args.m.now) (made_of c.sum_mode_type.result) c.in-Ok.ensures c.sum_mode_type.ensures
