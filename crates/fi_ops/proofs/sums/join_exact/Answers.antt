use Rattle.std.proofs.Common.{◌∙◌, arith, w32, to_z, of_z}
use Rattle.std.proofs.lemmas.Int.{ints}
use Rattle.num_type.specs.View.{type_of}
use Rattle.fi_ops.specs.Parts.{plus_or_minus}
use Rattle.fi_ops.specs.View.{element_of}
use Rattle.fi_ops.proofs.Taken.{exact_is}
use Rattle.fi_ops.proofs.sums.join_exact.Goals as goal

pub returns-clause-value : goal.returns-clause-value
returns-clause-value c =
    exact_is (plus_or_minus c.args.minus) c.args.m.now (type_of c.args.t) (element_of c.args.a) (element_of c.args.b) (to_z w32 (of_z w32 c.common_fraction-fraction.result)) c.align-x.result c.align-y.result c.plus.result c.take.result.z
    (omega (arith, ints, c.common_fraction-fraction.ensures))
    c.align-x.ensures.value c.align-y.ensures.value (c.plus.ensures ∙ c.turned.ensures.value c.align-x.result) c.take.ensures.value
