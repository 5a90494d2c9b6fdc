use Rattle.std.proofs.Common.{sym, ◌∙◌, length}
use Rattle.scalar_walk.specs.View.{names_view}
use Rattle.scalar_walk.proofs.Steps.{inputs_end, min_is}
use Rattle.scalar_walk.proofs.entry.set_inputs.Goals as goal

pub returns : goal.returns
returns c =
    sym (c.loop-k.invariant ∙ inputs_end c.loop-k.k c.args.inputs.now c.args.types.now (names_view c.loop-k.names) c.min-count.result c.loop-k-test.false (min_is (length c.args.inputs.now) (length c.args.types.now) c.min-count.result c.min-count.ensures))
