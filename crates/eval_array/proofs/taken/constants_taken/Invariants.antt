use Rattle.std.proofs.Common.{◌≡◌, ◌++◌, map, drop}
use Rattle.std.specs.Prelude.{All}
use Rattle.num_type.specs.Types.{IsInRange}
use Rattle.num_type.specs.View.{exact_of, type_of}
use Rattle.fi_eval.specs.Calls as calls
use Rattle.eval_array.proofs.taken.constants_taken.Given as goal

abbrev pub invariant-loop-c : goal.invariant-loop-c
invariant-loop-c l = record {
  value : l.out.items ++ map (calls.taken_constant (type_of l.num) l.math) (map exact_of (drop l.c-index l.all)) ≡ map (calls.taken_constant (type_of l.num) l.math) (map exact_of l.all);
  inside : All (IsInRange (type_of l.num)) l.out.items;
}
