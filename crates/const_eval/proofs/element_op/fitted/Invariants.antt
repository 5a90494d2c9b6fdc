use Rattle.std.proofs.Common.{◌≡◌, ℕ, ◌<◌, length}
use Rattle.const_eval.specs.Complex.{AreSame}
use Rattle.const_eval.specs.Elementwise.{applied, HasSteps, serving}
use Rattle.const_eval.specs.Listed.{listed}
use Rattle.const_eval.proofs.element_op.fitted.Given as goal

abbrev pub invariant-loop-k : goal.invariant-loop-k
invariant-loop-k l = record {
  count : length l.numbers.items ≡ l.k;
  steps : (j : ℕ) → j < l.k → HasSteps l.op (serving l.a j) (serving l.b j);
  numbers : (j : ℕ) → j < l.k → AreSame (listed l.numbers.items j) (applied l.op (serving l.a j) (serving l.b j));
}
