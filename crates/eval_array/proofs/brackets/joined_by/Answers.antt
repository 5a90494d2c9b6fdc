use Rattle.std.proofs.Common.{ap, sym, ◌∙◌}
use Rattle.eval_value.specs.View.{item_view, value_view}
use Rattle.eval_array.specs.Views.{join_view}
use Rattle.eval_array.proofs.Rows.{first_missing, first_there}
use Rattle.eval_array.proofs.brackets.joined_by.Goals as goal

pub returns-in-None : goal.returns-in-None
returns-in-None c =
    first_missing (join_view c.args.join) c.args.values.now c.index-values-0.result c.if-values-eq0.false c.index-values-0.is (sym (ap item_view c.in-None.is) ∙ c.in_ok-element.ensures)

pub returns-in_ok-r-in-Some : goal.returns-in_ok-r-in-Some
returns-in_ok-r-in-Some c =
    c.in_ok-r-in-Some.ensures
    ∙ first_there (join_view c.args.join) c.args.values.now c.index-values-0.result (value_view c.in-Some.first) c.if-values-eq0.false c.index-values-0.is (sym (ap item_view c.in-Some.is) ∙ c.in_ok-element.ensures)
