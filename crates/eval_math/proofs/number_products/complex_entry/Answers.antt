use Rattle.std.proofs.Common.{◌≡◌, ◌∙◌, ap, List, ℕ}
use Rattle.std.specs.Prelude.{option_map}
use Rattle.const_eval.specs.Complex.{complex_of}
use Rattle.fi_rules.specs.declared.work.Work.TheVariants as work
use Rattle.fi_values.specs.Arithmetic.{complex_folded}
use Rattle.fi_values.specs.Elements.{picked}
use Rattle.fi_values.specs.Products.{complex_nought}
use Rattle.fi_values.specs.Sums.{column_places, row_places}
use Rattle.eval_value.specs.View.{shape_view}
use Rattle.eval_math.proofs.Matrix.{total_at}
use Rattle.eval_math.proofs.number_products.complex_entry.Goals as goal

pub returns : goal.returns
returns c =
    total_at complex_of (complex_folded work.Sum) (complex_folded work.Product) c.complex_zero.result c.complex_zero-2.result complex_nought c.args.xs.now c.args.ys.now c.as_slice-3.result.now c.as_slice-4.result.now (row_places (shape_view c.args.s) c.args.i) (column_places (shape_view c.args.t) c.args.j) (option_map complex_of c.complex_total.result)
    c.complex_zero.ensures c.complex_zero-2.ensures
    (c.as_slice-3.ensures.value ∙ c.in_ok-us.ensures ∙ ap (picked c.complex_zero.result c.args.xs.now) (c.as_slice.ensures.value ∙ c.in_ok-left.ensures))
    (c.as_slice-4.ensures.value ∙ c.in_ok-vs.ensures ∙ ap (picked c.complex_zero-2.result c.args.ys.now) (c.as_slice-2.ensures.value ∙ c.in_ok-right.ensures))
    c.complex_total.ensures
