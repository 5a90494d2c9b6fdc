use Rattle.std.proofs.Common.{◌≡◌, ◌∙◌, ap, length, map, arith}
use Rattle.std.specs.Prelude.{◌||◌}
use Rattle.shape_rules.specs.Shapes.{columns_of, elements_of, rows_of}
use Rattle.eval_value.specs.View.{shape_view}
use Rattle.eval_math.specs.View.{operand_view}
use Rattle.eval_math.proofs.Accumulated.{product_of}
use Rattle.eval_math.proofs.Entries.{cells_moved}
use Rattle.eval_math.proofs.fi_products.accumulated.Goals as goal

pub entries-requires-clause-inside : goal.entries-requires-clause-inside
entries-requires-clause-inside c =
    cells_moved (rows_of c.args.shape) (columns_of c.args.shape) (rows_of c.args.a.now.shape) (columns_of c.args.b.now.shape) c.in_ok-places.places.items c.as_slice.result.now c.requires.rows c.requires.columns c.as_slice.ensures.value c.in_ok-places.ensures.inside

pub returns : goal.returns
returns c =
    product_of (shape_view c.args.shape) (operand_view c.args.a.now) (operand_view c.args.b.now) c.args.how.now (rows_of c.args.shape) (columns_of c.args.shape) c.as_slice.result.now c.in_ok-zs.zs.items c.as_slice-2.result.now c.either.result c.in_ok-v.v
    c.requires.rows c.requires.columns (c.as_slice.ensures.value ∙ c.in_ok-places.ensures.value) c.in_ok-zs.ensures.value c.as_slice-2.ensures.value
    (c.either.ensures ∙ (λ i. c.is_complex-p.ensures i || c.is_complex-q.ensures i))
    c.in_ok-v.ensures
