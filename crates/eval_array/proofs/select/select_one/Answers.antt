use Rattle.std.proofs.Common.{Some, ap, sym, ◌∙◌}
use Rattle.fi_rules.specs.Options.{and_then}
use Rattle.eval_value.specs.View.{shape_view}
use Rattle.fi_values.specs.Subscripts.{selection}
use Rattle.std.specs.Prelude.{[], ◌∷◌}
use Rattle.eval_array.specs.Choices.{choice, item_subscript}
use Rattle.eval_array.specs.Views.{choice_answer, choice_view}
use Rattle.eval_array.proofs.Selected.{none_chosen, one_chosen}
use Rattle.eval_array.proofs.select.select_one.Goals as goal

pub returns-in-None : goal.returns-in-None
returns-in-None c =
    none_chosen (item_subscript c.args.subscript.now) c.elements.result (λ k. selection (shape_view c.args.shape) (k ∷ [])) (sym (ap choice_answer c.in-None.is) ∙ c.in_ok-chosen.ensures)

pub returns-in-Some : goal.returns-in-Some
returns-in-Some c =
    ap Some c.only.ensures
    ∙ one_chosen (shape_view c.args.shape) (item_subscript c.args.subscript.now) (choice_view c.in-Some.c) (sym (ap choice_answer c.in-Some.is) ∙ c.in_ok-chosen.ensures ∙ ap (λ n. and_then (item_subscript c.args.subscript.now) (λ k. Some (choice n k))) c.elements.ensures.value)
