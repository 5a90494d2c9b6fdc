use Rattle.std.proofs.Common.{◌≡◌, ◌++◌, map, drop}
use Rattle.num_type.specs.View.{exact_of}
use Rattle.const_rules.specs.Folds.{negated}
use Rattle.eval_array.proofs.transposes.negative_numbers.Given as goal

abbrev pub invariant-loop-c : goal.invariant-loop-c
invariant-loop-c l = map exact_of l.out.items ++ map negated (map exact_of (drop l.c-index l.all)) ≡ map negated (map exact_of l.all)
