use Rattle.std.proofs.Common.{sym, ◌∙◌}
use Rattle.num_type.proofs.Constants.{not_true}
use Rattle.const_eval.specs.Elementwise.{IsOperated, IsUnoperated}
use Rattle.const_eval.specs.declared.element_op.ElementOp.TheVariants.{Product}
use Rattle.const_fold.specs.MatrixProducts.{IsMatrixProduct, IsNoMatrixProduct}
use Rattle.const_fold.specs.Folds.{IsMultiplied, IsUnmultiplied}
use Rattle.const_fold.specs.Folds.IsMultiplied.{ByElement, ByMatrix}
use Rattle.const_fold.specs.Folds.IsUnmultiplied.{NotByElement, NotByMatrix}
use Rattle.const_fold.proofs.Chosen.{ok_because, err_because}
use Rattle.const_fold.proofs.binary.multiplied.Goals as goal

pub returns-then-is_by_element-clause-value : goal.returns-then-is_by_element-clause-value
returns-then-is_by_element-clause-value c =
    ok_because {P = λ k. IsOperated Product c.args.a.now c.args.b.now k} {Q = λ k. IsMultiplied c.args.a.now c.args.b.now k} c.elementwise.result (λ k h. ByElement (c.is_by_element.ensures.0 c.if-is_by_element.true) h) c.elementwise.ensures.value

pub returns-then-is_by_element-clause-refusal : goal.returns-then-is_by_element-clause-refusal
returns-then-is_by_element-clause-refusal c =
    err_because {P = λ r. IsUnoperated Product c.args.shown.now c.args.a.now c.args.b.now c.args.at r} {Q = λ r. IsUnmultiplied c.args.shown.now c.args.a.now c.args.b.now c.args.at r} c.elementwise.result (λ r h. NotByElement (c.is_by_element.ensures.0 c.if-is_by_element.true) h) c.elementwise.ensures.refusal

pub returns-else-is_by_element-clause-value : goal.returns-else-is_by_element-clause-value
returns-else-is_by_element-clause-value c =
    ok_because {P = λ k. IsMatrixProduct c.args.a.now c.args.b.now k} {Q = λ k. IsMultiplied c.args.a.now c.args.b.now k} c.matrix_product.result (λ k h. ByMatrix (λ o. not_true (sym c.if-is_by_element.false ∙ c.is_by_element.ensures.1 o)) h) c.matrix_product.ensures.value

pub returns-else-is_by_element-clause-refusal : goal.returns-else-is_by_element-clause-refusal
returns-else-is_by_element-clause-refusal c =
    err_because {P = λ r. IsNoMatrixProduct c.args.shown.now c.args.a.now c.args.b.now c.args.at r} {Q = λ r. IsUnmultiplied c.args.shown.now c.args.a.now c.args.b.now c.args.at r} c.matrix_product.result (λ r h. NotByMatrix (λ o. not_true (sym c.if-is_by_element.false ∙ c.is_by_element.ensures.1 o)) h) c.matrix_product.ensures.refusal
