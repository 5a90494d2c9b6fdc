use Rattle.std.proofs.Common.{◌≡◌, ◌++◌, drop, length, map}
use Rattle.num_type.specs.View.{exact_of}
use Rattle.const_eval.specs.Complex.{complex_of}
use Rattle.fi_values.specs.Arithmetic.{zipped}
use Rattle.eval_math.proofs.complex_numbers.of_parts.Given as goal

abbrev pub invariant-loop-k : goal.invariant-loop-k
invariant-loop-k l = record {
  value : map complex_of l.out.items ++ zipped (map exact_of (drop l.k l.re)) (map exact_of (drop l.k l.im)) ≡ zipped (map exact_of l.re) (map exact_of l.im);
  many : length l.out.items ≡ l.k;
}
