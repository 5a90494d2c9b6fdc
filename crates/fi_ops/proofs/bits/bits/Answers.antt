use Rattle.std.proofs.Common.{arith}
use Rattle.std.proofs.lemmas.Nat.{one_shl}
use Rattle.fi_ops.specs.View.{element_of}
use Rattle.fi_ops.proofs.Stored.{bits_above, bits_below, size_below}
use Rattle.fi_ops.proofs.bits.bits.Goals as goal

pub returns-then-is_negative-clause-value : goal.returns-then-is_negative-clause-value
returns-then-is_negative-clause-value c =
    let e = one_shl c.word.result 128 (omega (arith, c.word.ensures)) in
    let b = bits_below (element_of c.args.a.now) c.word.result c.magnitude.result c.args.a.now.num.one_bit c.args.a.now.in_range c.if-is_negative.ensures c.word.ensures.value c.magnitude.ensures in
    omega (arith, e, b)

pub returns-else-is_negative-clause-value : goal.returns-else-is_negative-clause-value
returns-else-is_negative-clause-value c = bits_above (element_of c.args.a.now) c.magnitude-else-is_negative.result c.args.a.now.num.one_bit c.args.a.now.in_range c.if-is_negative.ensures c.magnitude-else-is_negative.ensures

pub returns-else-is_negative-clause-below : goal.returns-else-is_negative-clause-below
returns-else-is_negative-clause-below c = size_below (element_of c.args.a.now) c.magnitude-else-is_negative.result c.args.a.now.num.one_bit c.args.a.now.in_range c.magnitude-else-is_negative.ensures
