use Rattle.std.proofs.Common.{◌≡◌, ◌∙◌, map}
use Rattle.num_type.specs.View.{exact_of}
use Rattle.shape_rules.specs.Shapes.{columns_of, rows_of}
use Rattle.eval_value.specs.View.{shape_view}
use Rattle.eval_math.proofs.Entries.{cells_moved}
use Rattle.eval_math.proofs.Matrix.{no_real_matrix, real_matrix_made, real_matrix_stopped}
use Rattle.eval_math.proofs.number_products.real_product.Goals as goal

pub returns-in-None : goal.returns-in-None
returns-in-None c = no_real_matrix (shape_view c.args.x.now.shape) (map exact_of c.args.x.now.re.items) (shape_view c.args.y.now.shape) (map exact_of c.args.y.now.re.items) c.in-None.ensures.value

pub returns-in-Ok-None : goal.returns-in-Ok-None
returns-in-Ok-None c =
    real_matrix_stopped (shape_view c.args.x.now.shape) (map exact_of c.args.x.now.re.items) (shape_view c.args.y.now.shape) (map exact_of c.args.y.now.re.items) (shape_view c.in-Some.shape) (rows_of c.in-Some.shape) (columns_of c.in-Some.shape) c.as_slice.result.now
    c.in-Some.ensures.rows c.in-Some.ensures.columns (c.as_slice.ensures.value ∙ c.in_ok-places-in-Some.ensures.value) c.in-Some.ensures.value (rw c.in-Ok-None.field-0-is at c.in-Ok-None.ensures.value)

pub returns : goal.returns
returns c =
    real_matrix_made (shape_view c.args.x.now.shape) (map exact_of c.args.x.now.re.items) (shape_view c.args.y.now.shape) (map exact_of c.args.y.now.re.items) (shape_view c.in-Some.shape) (rows_of c.in-Some.shape) (columns_of c.in-Some.shape) c.as_slice.result.now (map exact_of c.in-Ok-Some.re.items)
    c.in-Some.ensures.rows c.in-Some.ensures.columns (c.as_slice.ensures.value ∙ c.in_ok-places-in-Some.ensures.value) c.in-Some.ensures.value (rw c.in-Ok-Some.field-0-is at c.in-Ok-Some.ensures.value)
