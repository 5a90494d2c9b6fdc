use Rattle.std.proofs.Common.{◌≡◌, ℕ, ◌<◌, ◌/◌, ◌%◌, length}
use Rattle.shape_rules.specs.Shapes.{columns_of}
use Rattle.const_eval.specs.Complex.{AreSame}
use Rattle.const_eval.specs.Listed.{listed}
use Rattle.const_fold.specs.MatrixProducts.{sum_to, IsExactSum}
use Rattle.const_fold.proofs.matrix.kept.Given as goal

abbrev pub invariant-loop-k : goal.invariant-loop-k
invariant-loop-k l = record {
  count : length l.numbers.items ≡ l.k;
  steps : (j : ℕ) → j < l.k → IsExactSum l.a l.b (j % l.rows) (j / l.rows);
  numbers : (j : ℕ) → j < l.k → AreSame (listed l.numbers.items j) (sum_to l.a l.b (j % l.rows) (j / l.rows) (columns_of l.a.shape));
}
