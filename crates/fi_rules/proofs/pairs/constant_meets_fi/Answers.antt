use Rattle.num_type.specs.View.{exact_of, type_of}
use Rattle.fi_rules.specs.Checked.{Fine, Missing, bind}
use Rattle.fi_rules.specs.View.{shown_view, side_view}
use Rattle.fi_rules.proofs.Meetings.{to_the_left}
use Rattle.fi_rules.proofs.pairs.constant_meets_fi.Goals as goal

pub returns-in-Ok : goal.returns-in-Ok
unfolding bind
returns-in-Ok c = to_the_left c.args.work (type_of c.args.t) c.args.m (exact_of c.args.c) (Fine (side_view c.in-Ok.side)) c.in-Ok.ensures

pub returns-in-Err : goal.returns-in-Err
unfolding bind
returns-in-Err c = to_the_left c.args.work (type_of c.args.t) c.args.m (exact_of c.args.c) (Missing c.in-Err.missing.code (shown_view c.in-Err.missing.shown)) c.in-Err.ensures
