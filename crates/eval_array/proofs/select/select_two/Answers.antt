use Rattle.std.proofs.Common.{Some, ap, sym, ◌∙◌}
use Rattle.fi_rules.specs.Options.{and_then}
use Rattle.eval_value.specs.View.{shape_view}
use Rattle.eval_array.specs.Choices.{choice, item_subscript}
use Rattle.eval_array.specs.Views.{choice_answer, choice_view}
use Rattle.eval_array.proofs.Selected.{columns_missing, rows_missing, two_chosen}
use Rattle.eval_array.proofs.select.select_two.Goals as goal

pub returns-in-None : goal.returns-in-None
returns-in-None c =
    rows_missing (shape_view c.args.shape) (item_subscript c.args.first.now) (item_subscript c.args.second.now) (sym (ap choice_answer c.in-None.is) ∙ c.in_ok-chosen.ensures ∙ ap (λ n. and_then (item_subscript c.args.first.now) (λ k. Some (choice n k))) c.rows.ensures.value)

pub returns-in-None-2 : goal.returns-in-None-2
returns-in-None-2 c =
    columns_missing (shape_view c.args.shape) (item_subscript c.args.first.now) (item_subscript c.args.second.now) (sym (ap choice_answer c.in-None-2.is) ∙ c.in_ok-chosen-in-Some.ensures ∙ ap (λ n. and_then (item_subscript c.args.second.now) (λ k. Some (choice n k))) c.cols.ensures.value)

pub returns : goal.returns
returns c =
    ap Some c.in_ok-k-in-Some-2.ensures
    ∙ two_chosen (shape_view c.args.shape) (item_subscript c.args.first.now) (item_subscript c.args.second.now) (choice_view c.in-Some.rows) (choice_view c.in-Some-2.columns)
    (sym (ap choice_answer c.in-Some.is) ∙ c.in_ok-chosen.ensures ∙ ap (λ n. and_then (item_subscript c.args.first.now) (λ k. Some (choice n k))) c.rows.ensures.value)
    (sym (ap choice_answer c.in-Some-2.is) ∙ c.in_ok-chosen-in-Some.ensures ∙ ap (λ n. and_then (item_subscript c.args.second.now) (λ k. Some (choice n k))) c.cols.ensures.value)
