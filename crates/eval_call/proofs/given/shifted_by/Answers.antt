use Rattle.eval_value.specs.View.{item_view, value_view}
use Rattle.eval_bits.specs.Changes.{moved}
use Rattle.eval_call.proofs.Numbered.{stated_shift}
use Rattle.eval_call.proofs.given.shifted_by.Goals as goal

pub returns-in_ok-r-in-Some : goal.returns-in_ok-r-in-Some
returns-in_ok-r-in-Some c =
    stated_shift (moved c.args.shift) c.args.v.now (value_view c.args.k.now) c.in-Some.places (item_view c.in_ok-r-in-Some.r) c.in-Some.ensures c.in_ok-r-in-Some.ensures
