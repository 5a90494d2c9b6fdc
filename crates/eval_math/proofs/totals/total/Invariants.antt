use Rattle.std.proofs.Common.{◌≡◌, drop}
use Rattle.num_type.specs.Types.{IsInRange}
use Rattle.num_type.specs.View.{type_of}
use Rattle.fi_values.specs.Sums.{added_up, sum_of}
use Rattle.eval_math.proofs.totals.total.Given as goal

abbrev pub invariant-loop-x : goal.invariant-loop-x
invariant-loop-x l = record {
  inside : IsInRange (type_of l.t) l.sum;
  value : added_up l.m (type_of l.t) (type_of l.a) l.sum (drop l.x-index l.xs) ≡ sum_of l.m (type_of l.t) (type_of l.a) l.xs;
}
