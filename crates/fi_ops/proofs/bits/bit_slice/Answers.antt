use Rattle.std.proofs.Common.{◌∙◌}
use Rattle.fi_ops.specs.View.{element_of}
use Rattle.fi_ops.proofs.Stored.{sliced_is}
use Rattle.fi_ops.proofs.bits.bit_slice.Goals as goal

pub returns : goal.returns
returns c = c.in-Some.ensures.value ∙ sliced_is (element_of c.args.a) c.args.left c.args.right c.bits.result c.ones.result c.ones.ensures c.bits.ensures.value
