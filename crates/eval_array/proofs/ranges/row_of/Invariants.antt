use Rattle.std.proofs.Common.{◌≡◌, ◌-◌, ◌++◌, map, vec_len}
use Rattle.std.specs.Prelude.{pos, ◌+ℤ◌, ◌*ℤ◌}
use Rattle.num_type.specs.View.{exact_of}
use Rattle.fi_values.specs.Elements.{count_from}
use Rattle.fi_values.specs.Numbers.{constant}
use Rattle.eval_array.specs.Ranged.{items_view}
use Rattle.eval_array.proofs.ranges.row_of.Given as goal

abbrev pub invariant-loop-k : goal.invariant-loop-k
invariant-loop-k l = record {
  value : map exact_of l.re.items ++ map constant (map (λ k. l.r.first +ℤ l.r.step *ℤ pos k) (count_from l.k (l.r.count - l.k))) ≡ map constant (items_view l.r);
  count : vec_len l.re ≡ l.k;
}
