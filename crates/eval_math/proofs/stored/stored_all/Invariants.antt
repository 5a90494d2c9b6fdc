use Rattle.std.proofs.Common.{◌≡◌, drop, length, map}
use Rattle.std.specs.List.{All}
use Rattle.num_type.specs.Types.{IsInRange}
use Rattle.num_type.specs.View.{exact_of, type_of}
use Rattle.const_rules.specs.Stored.{stored_in}
use Rattle.fi_rules.specs.Options.{all_of}
use Rattle.eval_math.specs.View.{with_built}
use Rattle.eval_math.proofs.stored.stored_all.Given as goal

abbrev pub invariant-loop-c : goal.invariant-loop-c
invariant-loop-c l = record {
  value : with_built l.out.items (all_of (map (λ c. stored_in (type_of l.t) (exact_of c)) (drop l.c-index l.constants))) ≡ all_of (map (λ c. stored_in (type_of l.t) (exact_of c)) l.constants);
  many : length l.out.items ≡ l.c-index;
  inside : All (IsInRange (type_of l.t)) l.out.items;
}
