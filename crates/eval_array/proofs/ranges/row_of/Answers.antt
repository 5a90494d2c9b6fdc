use Rattle.std.proofs.Common.{map, arith, rules}
use Rattle.fi_values.specs.Numbers.{constant}
use Rattle.eval_array.specs.Ranged.{items_view}
use Rattle.eval_array.proofs.Joined.{row_more}
use Rattle.eval_array.proofs.ranges.row_of.Goals as goal

pub loop-k-preserved : goal.loop-k-preserved
loop-k-preserved c =
    record {
      value =
          row_more c.args.r.now.first c.args.r.now.step c.args.r.now.count c.loop-k.k c.loop-k.re.items c.push.new.self.items c.item.result (map constant (items_view c.args.r.now)) c.loop-k-test.true c.in_ok-push.ensures.items c.item.ensures c.loop-k.invariant.value;
      count = first_of (search rules, omega (arith, c.in_ok-push.ensures.len, c.loop-k.invariant.count));
    }
