use Rattle.num_type.specs.View.{type_of}
use Rattle.fi_rules.proofs.Workings.{power_kept, division_kept, later_kept}
use Rattle.fi_rules.proofs.working.made.Goals as goal

pub returns-in-Power : goal.returns-in-Power
returns-in-Power c = power_kept c.args.work c.args.m.now (type_of c.args.a) (type_of c.args.b) c.in-Power.is

pub returns-in-Division : goal.returns-in-Division
returns-in-Division c = division_kept c.args.work c.args.m.now (type_of c.args.a) (type_of c.args.b) c.in-Division.is

pub returns-in-Later : goal.returns-in-Later
returns-in-Later c = later_kept c.args.work c.args.m.now (type_of c.args.a) (type_of c.args.b) c.in-Later.is
