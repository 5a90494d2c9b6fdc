use Rattle.std.proofs.Common.{sym, ap}
use Rattle.scalar_walk.specs.Walk.{has_colon}
use Rattle.scalar_walk.proofs.Views.{all_view, item_view}
use Rattle.scalar_walk.proofs.walk.is_colon.Goals as goal

pub returns-in-All : goal.returns-in-All
returns-in-All c = sym (ap has_colon (all_view c.args.arg.now c.in-All.is))

pub returns-in-Item : goal.returns-in-Item
returns-in-Item c = sym (ap has_colon (item_view c.args.arg.now c.in-Item.field-0 c.in-Item.is))
