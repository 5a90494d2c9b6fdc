use Rattle.std.proofs.Common.{ℕ, ◌<◌}
use Rattle.std.specs.Prelude.{ℤ}
use Rattle.const_eval.specs.Powers.{IsExponent}
use Rattle.const_eval.specs.Values.{number_at}
use Rattle.const_fold.proofs.power.are_exponents.Given as goal

abbrev pub invariant-loop-k : goal.invariant-loop-k
invariant-loop-k l = (j : ℕ) → j < l.k → (n : ℤ) × IsExponent (number_at l.b j).re n
