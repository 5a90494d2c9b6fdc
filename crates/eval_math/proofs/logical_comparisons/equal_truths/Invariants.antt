use Rattle.std.proofs.Common.{◌≡◌, ◌++◌, drop, length, map}
use mathlib.Core.Bool.{beq}
use Rattle.eval_math.proofs.logical_comparisons.equal_truths.Given as goal

abbrev pub invariant-loop-p : goal.invariant-loop-p
invariant-loop-p l = record {
  value : l.out.items ++ map (λ p. beq l.same (beq p.0 p.1)) (drop l.p-index l.met) ≡ map (λ p. beq l.same (beq p.0 p.1)) l.met;
  many : length l.out.items ≡ l.p-index;
}
