use Rattle.std.proofs.Common.{◌+◌, ◌++◌, map, drop, Some, ap, sym, ◌∙◌}
use Rattle.fi_rules.specs.Options.{and_then}
use Rattle.fi_values.specs.Brackets.{Above, Beside, joined_by, row_values}
use Rattle.eval_value.specs.View.{item_view, row_view, value_view}
use Rattle.eval_array.proofs.Picked.{none_before}
use Rattle.eval_array.proofs.Rows.{rows_end, rows_go, rows_stop}
use Rattle.eval_array.proofs.brackets.bracket.Goals as goal

pub loop-k-init : goal.loop-k-init
loop-k-init c = none_before (row_values (map row_view c.args.rows.now)) (map value_view c.new-values.result.items) (ap (λ vs. map value_view vs) c.new-values.ensures.items)

pub returns-in-None : goal.returns-in-None
returns-in-None c =
    rows_stop c.args.rows.now c.loop-k.k c.index-rows-k.result (map value_view c.loop-k.values.items) c.loop-k-test.true c.index-rows-k.is
    (sym (ap item_view c.in-None.is) ∙ c.in_ok-joined_by.ensures ∙ ap (λ vs. joined_by Beside (map value_view vs)) c.as_slice.ensures.value) c.loop-k.invariant

pub loop-k-preserved : goal.loop-k-preserved
loop-k-preserved c =
    ap (λ us. and_then (row_values (map row_view (drop (c.loop-k.k + 1) c.args.rows.now))) (λ vs. Some (map value_view us ++ vs))) c.in_ok-push-in-Some.ensures.items
    ∙ rows_go c.args.rows.now c.loop-k.k c.index-rows-k.result c.loop-k.values.items c.in-Some.v c.loop-k-test.true c.index-rows-k.is
    (sym (ap item_view c.in-Some.is) ∙ c.in_ok-joined_by.ensures ∙ ap (λ vs. joined_by Beside (map value_view vs)) c.as_slice.ensures.value) c.loop-k.invariant

pub returns : goal.returns
returns c =
    c.in_ok-r.ensures
    ∙ ap (λ vs. joined_by Above (map value_view vs)) c.as_slice-2.ensures.value
    ∙ rows_end c.args.rows.now c.loop-k.k (map value_view c.loop-k.values.items) c.loop-k-test.false c.loop-k.invariant
