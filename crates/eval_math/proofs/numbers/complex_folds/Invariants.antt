use Rattle.std.proofs.Common.{◌≡◌, drop, length, map}
use Rattle.const_eval.specs.Complex.{complex_of}
use Rattle.fi_rules.specs.Options.{all_of}
use Rattle.fi_values.specs.Arithmetic.{complex_folded}
use Rattle.eval_math.specs.View.{with_built}
use Rattle.eval_math.proofs.numbers.complex_folds.Given as goal

abbrev pub invariant-loop-p : goal.invariant-loop-p
invariant-loop-p l = record {
  value : with_built (map complex_of l.out.items) (all_of (map (λ p. complex_folded l.work (complex_of p.0) (complex_of p.1)) (drop l.p-index l.met))) ≡ all_of (map (λ p. complex_folded l.work (complex_of p.0) (complex_of p.1)) l.met);
  many : length l.out.items ≡ l.p-index;
}
