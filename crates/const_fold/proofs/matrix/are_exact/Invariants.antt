use Rattle.std.proofs.Common.{ℕ, ◌<◌, ◌/◌, ◌%◌}
use Rattle.const_fold.specs.MatrixProducts.{IsExactSum}
use Rattle.const_fold.proofs.matrix.are_exact.Given as goal

abbrev pub invariant-loop-k : goal.invariant-loop-k
invariant-loop-k l = (j : ℕ) → j < l.k → IsExactSum l.a l.b (j % l.rows) (j / l.rows)
