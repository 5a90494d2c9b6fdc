use Rattle.num_type.specs.View.{type_of}
use Rattle.fi_ops.specs.Bits.{sign_shifted}
use Rattle.fi_ops.proofs.Stored.{floor_inside}
use Rattle.fi_ops.proofs.bits.bit_sra.Goals as goal

pub invariant_of-result : goal.invariant_of-result
invariant_of-result c = record { in_range = floor_inside (type_of c.args.a.num) c.args.a.z c.args.k c.round.result c.args.a.in_range c.round.ensures.meets }

pub returns-clause-value : goal.returns-clause-value
unfolding sign_shifted
returns-clause-value c = c.round.ensures.value
