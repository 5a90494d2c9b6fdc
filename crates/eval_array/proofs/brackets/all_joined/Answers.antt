use Rattle.std.proofs.Common.{ap, sym, ◌∙◌}
use Rattle.eval_value.specs.View.{item_view, value_view}
use Rattle.eval_array.specs.Views.{join_view}
use Rattle.eval_array.proofs.Rows.{one_joined, one_unjoined}
use Rattle.eval_array.proofs.brackets.all_joined.Goals as goal

pub returns-in-None : goal.returns-in-None
returns-in-None c =
    one_unjoined (join_view c.args.join) (value_view c.loop-k.all) c.args.values.now c.loop-k.k c.index-values-k.result _ c.loop-k-test.true c.index-values-k.is (sym (ap item_view c.in-None.is) ∙ c.in_ok-joined.ensures) c.loop-k.invariant

pub loop-k-preserved : goal.loop-k-preserved
loop-k-preserved c =
    one_joined (join_view c.args.join) (value_view c.loop-k.all) (value_view c.in-Some.next) c.args.values.now c.loop-k.k c.index-values-k.result _ c.loop-k-test.true c.index-values-k.is (sym (ap item_view c.in-Some.is) ∙ c.in_ok-joined.ensures) c.loop-k.invariant
