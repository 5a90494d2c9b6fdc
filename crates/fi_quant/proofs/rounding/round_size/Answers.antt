use Rattle.std.proofs.Common.{◌≡◌}
use Rattle.fi_quant.specs.Split.{step}
use Rattle.fi_quant.proofs.Methods.{round_from}
use Rattle.fi_quant.proofs.rounding.round_size.Goals as goal
use Rattle.fi_quant.proofs.rounding.round_size.Goals.{then-rounds_up, else-rounds_up}

pub returns : goal.returns
returns c =
    let size : c.if-rounds_up.size ≡ step c.rounds_up.result c.split_at-split.result.whole =
    elim c.if-rounds_up.branch [ then-rounds_up w ↦ rw w.if-rounds_up.true w.size-is | else-rounds_up w ↦ rw w.if-rounds_up.false w.size-is ] in
    round_from c.args.method c.args.z c.args.k c.magnitude.result c.split_at-split.result.whole c.split_at-split.result.rest c.is_negative-2.result c.rounds_up.result c.if-rounds_up.size c.of.result c.magnitude.ensures c.split_at-split.ensures c.is_negative-2.ensures (cc) size c.of.ensures
