use Rattle.std.proofs.Common.{ap}
use Rattle.fi_ops.specs.Bits.{sliced}
use Rattle.fi_ops.specs.Elements.{Element}
use Rattle.eval_bits.specs.Changes.{target_of}
use Rattle.eval_bits.proofs.change.apply.Goals as goal

pub returns-in-Sliced-clause-num : goal.returns-in-Sliced-clause-num
unfolding sliced target_of
returns-in-Sliced-clause-num c = rw c.in-Sliced.is (ap (λ (x : Element). x.num) c.bit_slice.ensures)
