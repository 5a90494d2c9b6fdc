use Rattle.std.proofs.Common.{◌≡◌, ◌<◌, ◌*◌, ◌/◌, ◌%◌, ℕ, refl, sym, ap, subst, ◌∙◌, arith}
use Rattle.std.specs.Prelude.{List}
use Rattle.shape_rules.specs.Shapes.{columns_of}
use Rattle.num_type.proofs.Constants.{not_true}
use Rattle.const_eval.specs.declared.complex.Complex as code_complex
use Rattle.const_eval.specs.Complex.{AreSame}
use Rattle.const_eval.specs.Listed.{listed}
use Rattle.const_eval.proofs.Listed.{each_more}
use Rattle.const_eval.proofs.Operated.{only_because, next_count}
use Rattle.const_fold.specs.MatrixProducts.{sum_to, IsExactSum}
use Rattle.const_fold.specs.MatrixProducts.IsNoMatrixProduct.{Inexact}
use Rattle.const_fold.proofs.Entries.{row_within, column_within}
use Rattle.const_fold.proofs.Multiplied.{multiplied, next_numbers}
use Rattle.const_fold.proofs.matrix.kept.Goals as goal

pub nonzero_rem-k : goal.nonzero_rem-k
nonzero_rem-k c = omega (arith, c.rows-rows.ensures.least)

pub nonzero_div-k : goal.nonzero_div-k
nonzero_div-k c = omega (arith, c.rows-rows.ensures.least)

pub sum_of_products-requires-clause-row : goal.sum_of_products-requires-clause-row
sum_of_products-requires-clause-row c =
    let places : c.elements-count.result ≡ c.rows-rows.result * columns_of c.args.shape = c.elements-count.ensures.value ∙ ap (λ (i : ℕ). i * columns_of c.args.shape) (sym c.rows-rows.ensures.value) in
    let l : c.loop-k.k < c.rows-rows.result * columns_of c.args.shape = omega (arith, c.loop-k-test.true, places) in
    omega (arith, row_within c.loop-k.k c.rows-rows.result (columns_of c.args.shape) l, c.rows-rows.ensures.value, c.requires.rows)

pub sum_of_products-requires-clause-column : goal.sum_of_products-requires-clause-column
sum_of_products-requires-clause-column c =
    let places : c.elements-count.result ≡ c.rows-rows.result * columns_of c.args.shape = c.elements-count.ensures.value ∙ ap (λ (i : ℕ). i * columns_of c.args.shape) (sym c.rows-rows.ensures.value) in
    let l : c.loop-k.k < c.rows-rows.result * columns_of c.args.shape = omega (arith, c.loop-k-test.true, places) in
    omega (arith, column_within c.loop-k.k c.rows-rows.result (columns_of c.args.shape) l, c.requires.columns)

pub returns-in-None-clause-refusal : goal.returns-in-None-clause-refusal
returns-in-None-clause-refusal c =
    let places : c.elements-count.result ≡ c.rows-rows.result * columns_of c.args.shape = c.elements-count.ensures.value ∙ ap (λ (i : ℕ). i * columns_of c.args.shape) (sym c.rows-rows.ensures.value) in
    let l : c.loop-k.k < c.rows-rows.result * columns_of c.args.shape = omega (arith, c.loop-k-test.true, places) in
    only_because c.refused.result
    (λ r h.
    Inexact c.requires.inner
    (λ all. not_true (c.in-None.ensures.steps.1 (all (c.loop-k.k % c.rows-rows.result) (c.loop-k.k / c.rows-rows.result) (omega (arith, row_within c.loop-k.k c.rows-rows.result (columns_of c.args.shape) l, c.rows-rows.ensures.value, c.requires.rows)) (omega (arith, column_within c.loop-k.k c.rows-rows.result (columns_of c.args.shape) l, c.requires.columns)))))
    h)
    c.refused.ensures

pub loop-k-preserved : goal.loop-k-preserved
loop-k-preserved c = record {
  count = next_count c.loop-k.numbers.items c.push.new.self.items c.in-Some.number c.loop-k.k c.in_ok-push-in-Some.ensures.items c.loop-k.invariant.count;
  steps = each_more (λ (j : ℕ). IsExactSum c.args.a.now c.args.b.now (j % c.rows-rows.result) (j / c.rows-rows.result)) c.loop-k.k c.loop-k.invariant.steps (c.in-Some.ensures.steps.0 refl);
  numbers = next_numbers c.args.a.now c.args.b.now c.rows-rows.result (columns_of c.args.a.now.shape) c.loop-k.numbers.items c.push.new.self.items c.in-Some.number c.loop-k.k c.in_ok-push-in-Some.ensures.items c.loop-k.invariant.count c.loop-k.invariant.numbers c.in-Some.ensures.same;
}

pub returns-clause-value : goal.returns-clause-value
returns-clause-value c =
    multiplied c.args.a.now c.args.b.now c.in_ok-made.made c.args.shape c.as_slice.result.now c.rows-rows.result c.loop-k.k
    c.requires.inner c.requires.rows c.requires.columns c.rows-rows.ensures.value
    (omega (arith, c.loop-k-test.false, c.loop-k.auto.k-end, c.elements-count.ensures.value))
    c.in_ok-made.ensures.shape
    (c.in_ok-made.ensures.complex ∙ c.is_one_complex.ensures)
    c.in_ok-made.ensures.real
    c.in_ok-made.ensures.imaginary
    c.loop-k.invariant.steps
    (λ k l. subst (λ (xs : List code_complex.Complex). AreSame (listed xs k) (sum_to c.args.a.now c.args.b.now (k % c.rows-rows.result) (k / c.rows-rows.result) (columns_of c.args.a.now.shape))) (sym c.as_slice.ensures.value) (c.loop-k.invariant.numbers k l))
