use Rattle.std.proofs.Common.{◌≡◌, ◌∙◌, ap, List, ℕ}
use Rattle.std.specs.Prelude.{option_map}
use Rattle.num_type.specs.View.{exact_of}
use Rattle.fi_rules.specs.declared.work.Work.TheVariants as work
use Rattle.fi_rules.specs.Pairs.{folded}
use Rattle.fi_values.specs.Elements.{picked}
use Rattle.fi_values.specs.Numbers.{nought}
use Rattle.fi_values.specs.Sums.{column_places, row_places}
use Rattle.eval_value.specs.View.{shape_view}
use Rattle.eval_math.proofs.Matrix.{total_at}
use Rattle.eval_math.proofs.number_products.real_entry.Goals as goal

pub returns : goal.returns
returns c =
    let z : exact_of c.zero.result ≡ nought = λ i. record { significand = c.zero.ensures.significand i; exponent = c.zero.ensures.exponent i } in
    let y : exact_of c.zero-2.result ≡ nought = λ i. record { significand = c.zero-2.ensures.significand i; exponent = c.zero-2.ensures.exponent i } in
    total_at exact_of (folded work.Sum) (folded work.Product) c.zero.result c.zero-2.result nought c.args.x.now.re.items c.args.y.now.re.items c.as_slice-5.result.now c.as_slice-6.result.now (row_places (shape_view c.args.x.now.shape) c.args.i) (column_places (shape_view c.args.y.now.shape) c.args.j) (option_map exact_of c.real_total.result)
    z y
    (c.as_slice-5.ensures.value ∙ c.in_ok-xs.ensures ∙ (λ i. picked c.zero.result (c.as_slice.ensures.value i) ((c.as_slice-2.ensures.value ∙ c.in_ok-left.ensures) i)))
    (c.as_slice-6.ensures.value ∙ c.in_ok-ys.ensures ∙ (λ i. picked c.zero-2.result (c.as_slice-3.ensures.value i) ((c.as_slice-4.ensures.value ∙ c.in_ok-right.ensures) i)))
    c.real_total.ensures
