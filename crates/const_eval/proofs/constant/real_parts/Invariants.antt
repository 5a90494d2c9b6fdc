use Rattle.std.proofs.Common.{◌≡◌, ◌++◌, map, drop, length}
use Rattle.num_type.specs.View.{exact_of}
use Rattle.const_eval.specs.Listed.{real_of}
use Rattle.const_eval.proofs.constant.real_parts.Given as goal

abbrev pub invariant-loop-number : goal.invariant-loop-number
invariant-loop-number l = record {
  parts : map exact_of l.parts.items ++ map real_of (drop l.number-index l.numbers) ≡ map real_of l.numbers;
  count : length l.parts.items ≡ l.number-index;
}
