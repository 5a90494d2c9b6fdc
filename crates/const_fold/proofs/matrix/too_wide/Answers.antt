use Rattle.std.proofs.Common.{sym, ◌∙◌}
use Rattle.num_type.proofs.Constants.{not_true}
use Rattle.const_eval.proofs.Operated.{only_because}
use Rattle.const_fold.specs.MatrixProducts.IsNoMatrixProduct.{Inexact, TooMany}
use Rattle.const_fold.proofs.matrix.too_wide.Goals as goal

pub returns-then-are_exact : goal.returns-then-are_exact
returns-then-are_exact c =
    only_because c.too_many.result (λ r h. TooMany c.requires.inner (c.are_exact.ensures.0 c.if-are_exact.true) c.requires.many h) c.too_many.ensures

pub returns-else-are_exact : goal.returns-else-are_exact
returns-else-are_exact c =
    only_because c.refused.result (λ r h. Inexact c.requires.inner (λ all. not_true (sym c.if-are_exact.false ∙ c.are_exact.ensures.1 all)) h) c.refused.ensures
