use Rattle.std.proofs.Common.{◌≡◌, arith}
use Rattle.shape_rules.specs.Shapes.{columns_of, rows_of}
use Rattle.eval_value.specs.View.{shape_view}
use Rattle.eval_math.proofs.Entries.{no_product_shape, shape_made}
use Rattle.eval_math.proofs.cells.product_shape.Goals as goal

pub returns-then-cols-rows-clause-value : goal.returns-then-cols-rows-clause-value
returns-then-cols-rows-clause-value c =
    let inner : columns_of c.args.s ≡ rows_of c.args.t = omega (arith, c.if-cols-rows.true, c.cols.ensures.value, c.rows.ensures.value) in
    shape_made c.make.result (shape_view c.args.s) (shape_view c.args.t) c.rows-rows.result c.cols-columns.result c.rows-rows.ensures.value c.cols-columns.ensures.value c.rows-rows.ensures.least c.cols-columns.ensures.least inner c.make.ensures.limits c.make.ensures.rows c.make.ensures.columns

pub returns-else-cols-rows-clause-value : goal.returns-else-cols-rows-clause-value
returns-else-cols-rows-clause-value c =
    no_product_shape (shape_view c.args.s) (shape_view c.args.t) (λ e. omega (arith, e, c.if-cols-rows.false, c.cols.ensures.value, c.rows.ensures.value))
