use Rattle.std.proofs.Common.{◌*◌, Some, length, ap, sym, ◌∙◌}
use Rattle.fi_rules.specs.Value.{Shape}
use Rattle.eval_value.specs.View.{shape_view, value_view}
use Rattle.eval_array.proofs.Turned.{flipped_is, length_turned, not_flipped}
use Rattle.eval_array.proofs.transposes.flipped.Goals as goal

pub rearranged-requires : goal.rearranged-requires
rearranged-requires c =
    ap length (c.as_slice.ensures.value ∙ c.in_ok-places.ensures) ∙ length_turned (shape_view c.shape-shape.result) ∙ sym (ap (λ (r : Shape). r.rows * r.columns) c.turned.ensures)

pub returns-in_ok-v : goal.returns-in_ok-v
returns-in_ok-v c =
    ap Some c.in_ok-v.ensures
    ∙ flipped_is (value_view c.args.value.now) (shape_view c.shape-shape.result) (shape_view c.turned.result) c.as_slice.result.now (sym c.is_readable.ensures ∙ c.if-is_readable.true) c.shape-shape.ensures c.turned.ensures (c.as_slice.ensures.value ∙ c.in_ok-places.ensures)

pub returns-else-is_readable : goal.returns-else-is_readable
returns-else-is_readable c = not_flipped (value_view c.args.value.now) (sym c.is_readable.ensures ∙ c.if-is_readable.false)
