use Rattle.std.proofs.Common.{◌≡◌, drop, length, map}
use Rattle.num_type.specs.View.{exact_of}
use Rattle.fi_rules.specs.Options.{all_of}
use Rattle.fi_rules.specs.Pairs.{folded}
use Rattle.eval_math.specs.View.{with_built}
use Rattle.eval_math.proofs.numbers.real_folds.Given as goal

abbrev pub invariant-loop-p : goal.invariant-loop-p
invariant-loop-p l = record {
  value : with_built (map exact_of l.out.items) (all_of (map (λ p. folded l.work (exact_of p.0) (exact_of p.1)) (drop l.p-index l.met))) ≡ all_of (map (λ p. folded l.work (exact_of p.0) (exact_of p.1)) l.met);
  many : length l.out.items ≡ l.p-index;
}
