use Rattle.std.proofs.Common.{◌/◌, ◌%◌, ℕ, refl, sym, ap, ◌∙◌, arith}
use Rattle.std.proofs.lemmas.Nat.{mul-le}
use Rattle.shape_rules.specs.Shapes.{rows_of, columns_of}
use Rattle.num_type.proofs.Constants.{not_true}
use Rattle.const_eval.proofs.Listed.{each_more}
use Rattle.const_fold.specs.MatrixProducts.{IsExactSum}
use Rattle.const_fold.proofs.Entries.{row_within, column_within}
use Rattle.const_fold.proofs.Multiplied.{each_entry}
use Rattle.const_fold.proofs.matrix.are_exact.Goals as goal

pub overflow_mul-count : goal.overflow_mul-count
overflow_mul-count c = omega (arith, mul-le c.rows-rows.result c.cols-columns.result 4096 4096 c.rows-rows.ensures.most c.cols-columns.ensures.most)

pub is_exact-requires-clause-row : goal.is_exact-requires-clause-row
is_exact-requires-clause-row c = omega (arith, row_within c.loop-k.k c.rows-rows.result c.cols-columns.result c.loop-k-test.true, c.rows-rows.ensures.value, ap rows_of c.shape.ensures)

pub is_exact-requires-clause-column : goal.is_exact-requires-clause-column
is_exact-requires-clause-column c = omega (arith, column_within c.loop-k.k c.rows-rows.result c.cols-columns.result c.loop-k-test.true, c.cols-columns.ensures.value, ap columns_of c.shape-2.ensures)

pub returns-then-not-is_exact : goal.returns-then-not-is_exact
returns-then-not-is_exact c =
    (λ t. absurd (not_true t), λ all. sym c.if-not-is_exact.true ∙ c.is_exact.ensures.1 (all (c.loop-k.k % c.rows-rows.result) (c.loop-k.k / c.rows-rows.result) (omega (arith, row_within c.loop-k.k c.rows-rows.result c.cols-columns.result c.loop-k-test.true, c.rows-rows.ensures.value, ap rows_of c.shape.ensures)) (omega (arith, column_within c.loop-k.k c.rows-rows.result c.cols-columns.result c.loop-k-test.true, c.cols-columns.ensures.value, ap columns_of c.shape-2.ensures))))

pub loop-k-preserved : goal.loop-k-preserved
loop-k-preserved c =
    each_more (λ (j : ℕ). IsExactSum c.args.a.now c.args.b.now (j % c.rows-rows.result) (j / c.rows-rows.result)) c.loop-k.k c.loop-k.invariant (c.is_exact.ensures.0 c.if-not-is_exact.false)

pub returns : goal.returns
returns c = (
  λ t row column l m. each_entry (IsExactSum c.args.a.now c.args.b.now) c.rows-rows.result c.cols-columns.result c.loop-k.k (omega (arith, c.loop-k-test.false, c.loop-k.auto.k-end)) c.loop-k.invariant row column (omega (arith, l, c.rows-rows.ensures.value, ap rows_of c.shape.ensures)) (omega (arith, m, c.cols-columns.ensures.value, ap columns_of c.shape-2.ensures)),
  λ all. refl,
)
