use Rattle.std.proofs.Common.{◌≡◌, ◌∙◌, ap, inl, ◌*◌, length, arith}
use Rattle.std.specs.Prelude.{◌&&◌}
use Rattle.num_type.specs.View.{type_of}
use Rattle.shape_rules.specs.Shapes.{columns_of, elements_of, rows_of}
use Rattle.fi_math.specs.Rules.{stepped}
use Rattle.fi_rules.specs.declared.work.Work.TheVariants as work
use Rattle.fi_values.specs.Arithmetic.{result_made, result_parts}
use Rattle.fi_values.specs.Products.{picked_parts}
use Rattle.fi_values.specs.Sums.{column_places, row_places}
use Rattle.eval_value.specs.View.{shape_view}
use Rattle.eval_math.specs.View.{IsMet, operand_view, parts_view}
use Rattle.eval_math.specs.declared.frame.Frame.{Frame}
use Rattle.const_eval.specs.declared.element_op.ElementOp.TheVariants as operation
use Rattle.eval_math.proofs.Accumulated.{entry_is, framed_parts, framed_type}
use Rattle.eval_math.proofs.Matrix.{column_long, row_long}
use Rattle.eval_math.proofs.fi_products.entry.Goals as goal

pub at_places-requires : goal.at_places-requires
at_places-requires c =
    let e : elements_of c.row_of.result ≡ 1 * c.cols.result = λ i. c.row_of.ensures.rows i * c.row_of.ensures.columns i in
    let l : length c.as_slice.result.now ≡ columns_of c.args.a.now.shape = ap length (c.as_slice.ensures.value ∙ c.in_ok-left.ensures) ∙ row_long (shape_view c.args.a.now.shape) c.args.i in
    omega (arith, e, l, c.cols.ensures.value)

pub at_places-requires-2 : goal.at_places-requires-2
at_places-requires-2 c =
    let e : elements_of c.row_of.result ≡ 1 * c.cols.result = λ i. c.row_of.ensures.rows i * c.row_of.ensures.columns i in
    let l : length c.as_slice-2.result.now ≡ rows_of c.args.b.now.shape = ap length (c.as_slice-2.ensures.value ∙ c.in_ok-right.ensures) ∙ column_long (shape_view c.args.b.now.shape) c.args.j in
    omega (arith, e, l, c.cols.ensures.value, c.requires.inner)

pub operated-requires-clause-made : goal.operated-requires-clause-made
operated-requires-clause-made c =
    (λ i. result_made work.Product (c.is_complex-p.ensures i && c.is_complex-q.ensures i) c.args.how.now.by.math (type_of (c.in_ok-row.ensures.num i)) (type_of (c.in_ok-column.ensures.num i))) ∙ c.requires.made

pub operated-requires-clause-met : goal.operated-requires-clause-met
operated-requires-clause-met c = inl (ap elements_of c.in_ok-row.ensures.shape, ap elements_of c.in_ok-column.ensures.shape)

pub totals-requires : goal.totals-requires
totals-requires c =
    let f : Frame = record { op = operation.Product; by = c.args.how.now.by; num = c.args.how.now.product; shape = c.row_of.result } in
    ap (λ t. stepped c.args.how.now.by.math t (type_of c.args.how.now.sum))
    (framed_type f (result_parts work.Product c.args.how.now.by.math (type_of c.args.how.now.product) (operand_view c.in_ok-row.row) (operand_view c.in_ok-column.column) c.is_complex-p.result c.is_complex-q.result) (operand_view c.in_ok-terms.terms) c.in_ok-terms.ensures)
    ∙ c.requires.step

pub returns-clause-value : goal.returns-clause-value
returns-clause-value c =
    let f : Frame = record { op = operation.Product; by = c.args.how.now.by; num = c.args.how.now.product; shape = c.row_of.result } in
    let o = result_parts work.Product c.args.how.now.by.math (type_of c.args.how.now.product) (operand_view c.in_ok-row.row) (operand_view c.in_ok-column.column) c.is_complex-p.result c.is_complex-q.result in
    entry_is c.args.how.now.by.math (type_of c.args.how.now.product) (type_of c.args.how.now.sum) (operand_view c.args.a.now) (operand_view c.args.b.now) (operand_view c.in_ok-row.row) (operand_view c.in_ok-column.column)
    (row_places (shape_view c.args.a.now.shape) c.args.i) (column_places (shape_view c.args.b.now.shape) c.args.j) c.is_complex-p.result c.is_complex-q.result (parts_view c.in_ok-terms.terms) (type_of c.in_ok-terms.terms.num) c.totals.result
    (ap type_of c.in_ok-row.ensures.num)
    (c.in_ok-row.ensures.parts ∙ ap (picked_parts (parts_view c.args.a.now)) (c.as_slice.ensures.value ∙ c.in_ok-left.ensures))
    (ap type_of c.in_ok-column.ensures.num)
    (c.in_ok-column.ensures.parts ∙ ap (picked_parts (parts_view c.args.b.now)) (c.as_slice-2.ensures.value ∙ c.in_ok-right.ensures))
    c.is_complex-p.ensures c.is_complex-q.ensures
    (framed_parts f o (operand_view c.in_ok-terms.terms) c.in_ok-terms.ensures)
    (framed_type f o (operand_view c.in_ok-terms.terms) c.in_ok-terms.ensures)
    c.totals.ensures.value
