use Rattle.std.proofs.Common.{sym, ◌∙◌, length}
use Rattle.scalar_walk.proofs.Steps.{slots_end, min_is}
use Rattle.scalar_walk.proofs.entry.slots.Goals as goal

pub returns : goal.returns
returns c =
    sym (c.loop-k.invariant ∙ slots_end c.loop-k.k c.args.names.now c.args.types.now c.loop-k.all c.min-count.result c.loop-k-test.false (min_is (length c.args.names.now) (length c.args.types.now) c.min-count.result c.min-count.ensures))
