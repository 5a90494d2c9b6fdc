use Rattle.std.proofs.Common.{map, ap, sym, ◌∙◌}
use Rattle.fi_rules.specs.Options.{and_then}
use Rattle.fi_values.specs.Subscripts.{as_subscripts, selection}
use Rattle.eval_value.specs.View.{item_view, shape_view}
use Rattle.eval_array.proofs.Picked.{double, single}
use Rattle.eval_array.proofs.Selected.{as_one, as_two}
use Rattle.eval_array.proofs.select.select.Goals as goal

pub returns-in_ok-r : goal.returns-in_ok-r
returns-in_ok-r c =
    c.in_ok-r.ensures
    ∙ sym (as_one c.index-all-0.result (selection (shape_view c.args.shape)))
    ∙ ap (λ ds. and_then (as_subscripts (map item_view ds)) (selection (shape_view c.args.shape))) (sym (single c.args.all.now c.index-all-0.result c.if-all-eq1.true c.index-all-0.is))

pub returns-in_ok-r-2 : goal.returns-in_ok-r-2
returns-in_ok-r-2 c =
    c.in_ok-r-2.ensures
    ∙ sym (as_two c.index-all-0-then-all-eq2.result c.index-all-1.result (selection (shape_view c.args.shape)))
    ∙ ap (λ ds. and_then (as_subscripts (map item_view ds)) (selection (shape_view c.args.shape))) (sym (double c.args.all.now c.index-all-0-then-all-eq2.result c.index-all-1.result c.if-all-eq2.true c.index-all-0-then-all-eq2.is c.index-all-1.is))
