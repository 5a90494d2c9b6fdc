use Rattle.std.proofs.Common.{◌≡◌, ◌*◌, ◌<◌, ap, ◌∙◌, arith}
use Rattle.num_type.proofs.Constants.{not_true}
use Rattle.shape_rules.specs.Shapes.{rows_of, columns_of, element_limit}
use Rattle.const_eval.proofs.Operated.{only_because}
use Rattle.const_fold.specs.MatrixProducts.IsNoMatrixProduct.{Misfit}
use Rattle.const_fold.proofs.Entries.{many_elements}
use Rattle.const_fold.proofs.Raised.{shown_shapes}
use Rattle.const_fold.proofs.matrix.matrix_product.Goals as goal

pub returns-then-inner-other-clause-refusal : goal.returns-then-inner-other-clause-refusal
returns-then-inner-other-clause-refusal c =
    only_because c.mismatch.result
    (λ r h. Misfit (λ e. omega (arith, e, c.if-inner-other.true, c.cols-inner.ensures.value, c.rows-other.ensures.value, ap columns_of c.shape-left.ensures, ap rows_of c.shape-right.ensures)) h)
    (shown_shapes c.mismatch.result c.args.a.now.shape c.args.b.now.shape c.shape-left.result c.shape-right.result c.args.at c.shape-left.ensures c.shape-right.ensures c.mismatch.ensures)

pub too_wide-requires-clause-inner : goal.too_wide-requires-clause-inner
too_wide-requires-clause-inner c =
    omega (arith, c.if-inner-other.false, c.cols-inner.ensures.value, c.rows-other.ensures.value, ap columns_of c.shape-left.ensures, ap rows_of c.shape-right.ensures)

pub too_wide-requires-clause-many : goal.too_wide-requires-clause-many
too_wide-requires-clause-many c =
    let r : c.rows-rows.result ≡ rows_of c.args.a.now.shape = c.rows-rows.ensures.value ∙ ap rows_of c.shape-left.ensures in
    let q : c.cols-columns.result ≡ columns_of c.args.b.now.shape = c.cols-columns.ensures.value ∙ ap columns_of c.shape-right.ensures in
    let e : c.rows-rows.result * c.cols-columns.result ≡ rows_of c.args.a.now.shape * columns_of c.args.b.now.shape = λ i. r i * q i in
    let many : element_limit < c.rows-rows.result * c.cols-columns.result = many_elements c.rows-rows.result c.cols-columns.result c.rows-rows.ensures.least c.cols-columns.ensures.least (λ h. not_true (c.in-None.ensures.limits.1 h)) in
    omega (arith, many, e)

pub kept-requires-clause-inner : goal.kept-requires-clause-inner
kept-requires-clause-inner c =
    omega (arith, c.if-inner-other.false, c.cols-inner.ensures.value, c.rows-other.ensures.value, ap columns_of c.shape-left.ensures, ap rows_of c.shape-right.ensures)

pub kept-requires-clause-rows : goal.kept-requires-clause-rows
kept-requires-clause-rows c = omega (arith, c.in-Some.ensures.rows, c.rows-rows.ensures.value, ap rows_of c.shape-left.ensures)

pub kept-requires-clause-columns : goal.kept-requires-clause-columns
kept-requires-clause-columns c = omega (arith, c.in-Some.ensures.columns, c.cols-columns.ensures.value, ap columns_of c.shape-right.ensures)

pub returns-in-None-clause-refusal : goal.returns-in-None-clause-refusal
returns-in-None-clause-refusal c = c.too_wide.ensures

pub returns-in-Some-clause-value : goal.returns-in-Some-clause-value
returns-in-Some-clause-value c = c.kept.ensures.value

pub returns-in-Some-clause-refusal : goal.returns-in-Some-clause-refusal
returns-in-Some-clause-refusal c = c.kept.ensures.refusal
