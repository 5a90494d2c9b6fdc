use Rattle.std.proofs.Common.{inl, inr, ◌≤◌, arith}
use Rattle.eval_value.specs.View.{value_view}
use Rattle.eval_array.proofs.Joined.{ranged_empty, ranged_none, ranged_row}
use Rattle.eval_array.proofs.ranges.ranged.Goals as goal

pub returns-in-None : goal.returns-in-None
returns-in-None c = ranged_none (value_view c.args.first.now) (value_view c.args.step.now) (value_view c.args.last.now) c.in-None.ensures

pub returns-then-r-eq0 : goal.returns-then-r-eq0
returns-then-r-eq0 c = ranged_empty (value_view c.args.first.now) (value_view c.args.step.now) (value_view c.args.last.now) c.in-Some.r c.in-Some.ensures (inl c.if-r-eq0.true)

pub returns-then-r-gt4096 : goal.returns-then-r-gt4096
returns-then-r-gt4096 c = ranged_empty (value_view c.args.first.now) (value_view c.args.step.now) (value_view c.args.last.now) c.in-Some.r c.in-Some.ensures (inr c.if-r-gt4096.true)

pub returns-in_ok-v-in-Some : goal.returns-in_ok-v-in-Some
returns-in_ok-v-in-Some c =
    let some : 1 ≤ c.in-Some.r.count = omega (arith, c.if-r-eq0.false) in
    ranged_row (value_view c.args.first.now) (value_view c.args.step.now) (value_view c.args.last.now) c.in-Some.r (value_view c.in_ok-v-in-Some.v) c.in-Some.ensures some c.if-r-gt4096.false c.in_ok-v-in-Some.ensures
