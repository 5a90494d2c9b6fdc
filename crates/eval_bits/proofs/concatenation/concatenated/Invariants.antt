use Rattle.std.proofs.Common.{◌≡◌, map, drop}
use Rattle.fi_rules.specs.Options.{◌|>◌}
use Rattle.fi_values.specs.Bits.{bits_joined, concatenated_all}
use Rattle.eval_value.specs.View.{item_view, value_view}
use Rattle.eval_bits.proofs.concatenation.concatenated.Given as goal

abbrev pub invariant-loop-k : goal.invariant-loop-k
invariant-loop-k l = (item_view l.so_far |> (λ u. concatenated_all u (map value_view (drop l.k l.values)))) ≡ bits_joined (map value_view l.values)
