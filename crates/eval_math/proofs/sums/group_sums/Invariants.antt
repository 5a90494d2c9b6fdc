use Rattle.std.proofs.Common.{◌≡◌, ◌-◌, ◌++◌, length, map, pos}
use Rattle.std.specs.List.{All}
use Rattle.num_type.specs.Types.{IsInRange}
use Rattle.num_type.specs.View.{type_of}
use Rattle.fi_values.specs.Elements.{below, count_from, picked}
use Rattle.fi_values.specs.Sums.{sum_of}
use Rattle.eval_value.specs.View.{shape_view}
use Rattle.eval_math.specs.Totals.{along_view, group, group_count}
use Rattle.eval_math.proofs.sums.group_sums.Given as goal

abbrev pub invariant-loop-g : goal.invariant-loop-g
invariant-loop-g l = record {
  value : l.out.items ++ map (λ g. sum_of l.m (type_of l.t) (type_of l.a) (picked (pos 0) l.xs (group (along_view l.along) (shape_view l.shape) g))) (count_from l.g (group_count (along_view l.along) (shape_view l.shape) - l.g)) ≡ map (λ g. sum_of l.m (type_of l.t) (type_of l.a) (picked (pos 0) l.xs (group (along_view l.along) (shape_view l.shape) g))) (below (group_count (along_view l.along) (shape_view l.shape)));
  many : length l.out.items ≡ l.g;
  inside : All (IsInRange (type_of l.t)) l.out.items;
}
