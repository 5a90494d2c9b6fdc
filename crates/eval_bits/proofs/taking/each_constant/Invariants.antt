use Rattle.std.proofs.Common.{◌≡◌, ◌++◌, map, drop, length}
use Rattle.std.specs.Prelude.{All}
use Rattle.num_type.specs.Types.{IsInRange}
use Rattle.num_type.specs.View.{exact_of, type_of}
use Rattle.fi_eval.specs.Calls.{taken_constant}
use Rattle.eval_bits.proofs.taking.each_constant.Given as goal

abbrev pub invariant-loop-c : goal.invariant-loop-c
invariant-loop-c l = record {
  elements : l.out.items ++ map (taken_constant (type_of l.num) l.math) (map exact_of (drop l.c-index l.all)) ≡ map (taken_constant (type_of l.num) l.math) (map exact_of l.all);
  count : length l.out.items ≡ l.c-index;
  inside : All (IsInRange (type_of l.num)) l.out.items;
}
