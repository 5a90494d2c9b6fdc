use Rattle.std.proofs.Common.{◌≡◌, ◌<◌, ◌++◌, map, drop, vec_len, Some}
use Rattle.std.specs.Prelude.{All}
use Rattle.num_type.specs.View.{exact_of}
use Rattle.fi_rules.specs.Options.{and_then}
use Rattle.eval_array.specs.Choices.{number_places}
use Rattle.eval_array.proofs.subscripts.number_places.Given as goal

abbrev pub invariant-loop-c : goal.invariant-loop-c
invariant-loop-c l = record {
  value : and_then (number_places l.extent (map exact_of (drop l.c-index l.numbers))) (λ ks. Some (l.out.items ++ ks)) ≡ number_places l.extent (map exact_of l.numbers);
  as_many : vec_len l.out ≡ l.c-index;
  small : All (λ k. k < 4096) l.out.items;
}
