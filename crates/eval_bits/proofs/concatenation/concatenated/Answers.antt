use Rattle.fi_values.specs.Bits.{bits_joined}
use Rattle.std.proofs.Common.{map}
use Rattle.eval_value.specs.View.{item_view, value_view}
use Rattle.eval_bits.proofs.Lists.{joined_next, joined_all}
use Rattle.eval_bits.proofs.concatenation.concatenated.Goals as goal

pub loop-k-preserved : goal.loop-k-preserved
loop-k-preserved c =
    joined_next (item_view c.loop-k.so_far) (item_view c.in_ok-so_far-2.so_far) (bits_joined (map value_view c.args.values.now)) c.args.values.now c.loop-k.k c.index-values-k.result c.loop-k-test.true c.index-values-k.is c.in_ok-so_far-2.ensures c.loop-k.invariant

pub returns : goal.returns
returns c = joined_all (item_view c.loop-k.so_far) (bits_joined (map value_view c.args.values.now)) c.args.values.now c.loop-k.k c.loop-k-test.false c.loop-k.invariant
