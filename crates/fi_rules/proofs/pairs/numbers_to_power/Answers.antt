use Rattle.num_type.specs.View.{exact_of}
use Rattle.fi_rules.specs.Checked.{Fine, Missing, bind}
use Rattle.fi_rules.specs.View.{shown_view, number_view}
use Rattle.fi_rules.proofs.Meetings.{to_a_power}
use Rattle.fi_rules.proofs.pairs.numbers_to_power.Goals as goal

pub returns-in-Ok : goal.returns-in-Ok
unfolding bind
returns-in-Ok c = to_a_power (exact_of c.args.c) (exact_of c.args.d) (Fine (number_view c.in-Ok.result)) c.in-Ok.ensures

pub returns-in-Err : goal.returns-in-Err
unfolding bind
returns-in-Err c = to_a_power (exact_of c.args.c) (exact_of c.args.d) (Missing c.in-Err.missing.code (shown_view c.in-Err.missing.shown)) c.in-Err.ensures
