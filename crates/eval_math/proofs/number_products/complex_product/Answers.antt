use Rattle.std.proofs.Common.{◌≡◌, ◌∙◌, ap, map}
use Rattle.std.specs.Prelude.{Some}
use Rattle.const_eval.specs.Complex.{complex_of}
use Rattle.shape_rules.specs.Shapes.{columns_of, rows_of}
use Rattle.const_eval.specs.Complex.{Complex}
use Rattle.std.proofs.Common.{List}
use Rattle.fi_rules.specs.Options.{all_of}
use Rattle.fi_rules.specs.Value.{Val}
use Rattle.fi_values.specs.Arithmetic.{complex_value}
use Rattle.eval_value.specs.View.{shape_view}
use Rattle.eval_math.specs.Matrices.{complex_entry}
use Rattle.eval_math.specs.Numbers.{complex_numbers}
use Rattle.eval_math.proofs.Matrix.{complex_matrix_made, complex_matrix_stopped, no_complex_matrix}
use Rattle.eval_math.proofs.number_products.complex_product.Goals as goal

pub returns-in-None : goal.returns-in-None
returns-in-None c = no_complex_matrix (shape_view c.args.x.now.shape) (complex_numbers c.args.x.now) (shape_view c.args.y.now.shape) (complex_numbers c.args.y.now) c.in-None.ensures.value

pub returns-in-Ok-None : goal.returns-in-Ok-None
returns-in-Ok-None c =
    let left : map complex_of c.as_slice.result.now ≡ complex_numbers c.args.x.now = ap (map complex_of) c.as_slice.ensures.value ∙ c.in_ok-xs-in-Some.ensures.value in
    let right : map complex_of c.as_slice-in-Some.result.now ≡ complex_numbers c.args.y.now = ap (map complex_of) c.as_slice-in-Some.ensures.value ∙ c.in_ok-ys-in-Some.ensures.value in
    complex_matrix_stopped (shape_view c.args.x.now.shape) (complex_numbers c.args.x.now) (shape_view c.args.y.now.shape) (complex_numbers c.args.y.now) (shape_view c.in-Some.shape) (rows_of c.in-Some.shape) (columns_of c.in-Some.shape) c.as_slice-in-Some-2.result.now
    c.in-Some.ensures.rows c.in-Some.ensures.columns (c.as_slice-in-Some-2.ensures.value ∙ c.in_ok-places-in-Some.ensures.value) c.in-Some.ensures.value
    ((rw c.in-Ok-None.field-0-is at c.in-Ok-None.ensures.value) ∙ (λ i. all_of (map (complex_entry (shape_view c.args.x.now.shape) (left i) (shape_view c.args.y.now.shape) (right i)) c.as_slice-in-Some-2.result.now)))

pub returns : goal.returns
returns c =
    let left : map complex_of c.as_slice.result.now ≡ complex_numbers c.args.x.now = ap (map complex_of) c.as_slice.ensures.value ∙ c.in_ok-xs-in-Some.ensures.value in
    let right : map complex_of c.as_slice-in-Some.result.now ≡ complex_numbers c.args.y.now = ap (map complex_of) c.as_slice-in-Some.ensures.value ∙ c.in_ok-ys-in-Some.ensures.value in
    ap (λ (v : Val). Some v) (c.in_ok-v-in-Ok-Some.ensures ∙ ap (λ w. complex_value (shape_view c.in-Some.shape) (map complex_of w)) c.as_slice-in-Ok-Some.ensures.value)
    ∙ complex_matrix_made (shape_view c.args.x.now.shape) (complex_numbers c.args.x.now) (shape_view c.args.y.now.shape) (complex_numbers c.args.y.now) (shape_view c.in-Some.shape) (rows_of c.in-Some.shape) (columns_of c.in-Some.shape) c.as_slice-in-Some-2.result.now (map complex_of c.in-Ok-Some.zs.items)
    c.in-Some.ensures.rows c.in-Some.ensures.columns (c.as_slice-in-Some-2.ensures.value ∙ c.in_ok-places-in-Some.ensures.value) c.in-Some.ensures.value
    ((rw c.in-Ok-Some.field-0-is at c.in-Ok-Some.ensures.value) ∙ (λ i. all_of (map (complex_entry (shape_view c.args.x.now.shape) (left i) (shape_view c.args.y.now.shape) (right i)) c.as_slice-in-Some-2.result.now)))
