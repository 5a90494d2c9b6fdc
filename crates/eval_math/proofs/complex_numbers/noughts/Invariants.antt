use Rattle.std.proofs.Common.{◌≡◌, ◌++◌, drop, length, map}
use Rattle.num_type.specs.View.{exact_of}
use Rattle.fi_values.specs.Numbers.{nought_parts}
use Rattle.eval_math.proofs.complex_numbers.noughts.Given as goal

abbrev pub invariant-loop-k : goal.invariant-loop-k
invariant-loop-k l = record {
  value : map exact_of l.out.items ++ nought_parts (map exact_of (drop l.k l.parts)) ≡ nought_parts (map exact_of l.parts);
  many : length l.out.items ≡ l.k;
}
