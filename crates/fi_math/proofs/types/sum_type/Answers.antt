use Rattle.num_type.specs.Types.{word_limit}
use Rattle.num_type.specs.View.{type_of}
use Rattle.fi_math.specs.Full.{full_sum_of}
use Rattle.fi_math.specs.Made.{limited, and_then}
use Rattle.fi_math.specs.Rules.{sum_made, sum_by, stepped}
use Rattle.fi_math.specs.View.{made_of}
use Rattle.fi_math.proofs.Limits.{next_is, step_kept}
use Rattle.fi_math.proofs.types.sum_type.Goals as goal

pub returns-in-Ok-clause-made : goal.returns-in-Ok-clause-made
unfolding sum_made
returns-in-Ok-clause-made c = next_is (and_then (limited word_limit (full_sum_of c.args.n (type_of c.args.a))) (sum_by c.args.m.now)) (type_of c.in-Ok.t) (stepped c.args.m.now (type_of c.args.a)) (made_of c.stepped_type.result) c.in-Ok.ensures c.stepped_type.ensures

pub returns-in-Ok-clause-step : goal.returns-in-Ok-clause-step
returns-in-Ok-clause-step c = step_kept c.stepped_type.result c.args.m.now (type_of c.args.a) (type_of c.in-Ok.t) c.stepped_type.ensures
