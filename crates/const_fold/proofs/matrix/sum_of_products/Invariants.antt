use Rattle.std.proofs.Common.{ℕ, ◌<◌}
use Rattle.const_eval.specs.Complex.{complex_of, AreSame}
use Rattle.const_fold.specs.MatrixProducts.{sum_to, IsExactStep}
use Rattle.const_fold.proofs.matrix.sum_of_products.Given as goal

abbrev pub invariant-loop-n : goal.invariant-loop-n
invariant-loop-n l = record {
  steps : (j : ℕ) → j < l.n → IsExactStep l.a l.b l.row l.column j;
  same : AreSame (complex_of l.sum) (sum_to l.a l.b l.row l.column l.n);
}
