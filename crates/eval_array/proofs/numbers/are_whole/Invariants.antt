use Rattle.std.proofs.Common.{◌≡◌, map, drop}
use Rattle.std.specs.Prelude.{is_some}
use Rattle.num_type.specs.View.{exact_of}
use Rattle.fi_values.specs.Numbers.{wholes_of}
use Rattle.eval_array.proofs.numbers.are_whole.Given as goal

abbrev pub invariant-loop-c : goal.invariant-loop-c
invariant-loop-c l = is_some (wholes_of (map exact_of (drop l.c-index l.all))) ≡ is_some (wholes_of (map exact_of l.all))
