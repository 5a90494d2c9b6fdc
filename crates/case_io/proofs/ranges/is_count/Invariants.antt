use Rattle.std.proofs.Common.{◌≡◌, nat_eq, drop}
use Rattle.case_io.specs.Cases.{elements}
use Rattle.case_io.specs.View.{ranges_view}
use Rattle.case_io.proofs.ranges.is_count.Given as goal

abbrev pub invariant-loop-range : goal.invariant-loop-range
invariant-loop-range l = nat_eq l.count (elements (ranges_view l.ranges)) ≡ nat_eq l.left (elements (ranges_view (drop l.range-index l.ranges)))
