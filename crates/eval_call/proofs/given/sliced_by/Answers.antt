use Rattle.eval_value.specs.View.{item_view, value_view}
use Rattle.eval_call.proofs.Numbered.{no_left, no_right, stated_slice}
use Rattle.eval_call.proofs.given.sliced_by.Goals as goal

pub returns-in-None : goal.returns-in-None
returns-in-None c = no_left (value_view c.args.v.now) (value_view c.args.l.now) (value_view c.args.r.now) c.in-None.ensures

pub returns-in-None-natural : goal.returns-in-None-natural
returns-in-None-natural c = no_right (value_view c.args.v.now) (value_view c.args.l.now) (value_view c.args.r.now) c.in-None-natural.ensures

pub returns-in_ok-u-in-Some-natural : goal.returns-in_ok-u-in-Some-natural
returns-in_ok-u-in-Some-natural c =
    stated_slice c.args.v.now (value_view c.args.l.now) (value_view c.args.r.now) c.in-Some.left c.in-Some-natural.right (item_view c.in_ok-u-in-Some-natural.u) c.in-Some.ensures c.in-Some-natural.ensures c.in_ok-u-in-Some-natural.ensures
