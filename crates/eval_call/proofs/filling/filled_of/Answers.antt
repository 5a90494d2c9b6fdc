use Rattle.num_type.specs.View.{exact_of}
use Rattle.eval_value.specs.View.{item_view, value_view}
use Rattle.eval_call.proofs.Extents.{both}
use Rattle.eval_call.proofs.filling.filled_of.Goals as goal

pub returns-in_ok-v-in-Some-extent : goal.returns-in_ok-v-in-Some-extent
returns-in_ok-v-in-Some-extent c =
    both (exact_of c.args.number) (value_view c.args.rows.now) (value_view c.args.columns.now) c.in-Some.r c.in-Some-extent.k (item_view c.in_ok-v-in-Some-extent.v) c.in-Some.ensures.value c.in-Some-extent.ensures.value
    c.in-Some.ensures.least c.in-Some-extent.ensures.least c.in_ok-v-in-Some-extent.ensures
