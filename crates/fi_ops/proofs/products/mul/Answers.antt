use Rattle.std.proofs.Common.{arith, w32, to_z, of_z}
use Rattle.std.proofs.lemmas.Int.{ints}
use Rattle.std.specs.Prelude.{◌+ℤ◌, ◌*ℤ◌}
use Rattle.num_type.specs.View.{type_of}
use Rattle.fi_math.proofs.Inside.{product_inside}
use Rattle.fi_ops.specs.Operations.{multiplied}
use Rattle.fi_ops.proofs.Taken.{taken_at}
use Rattle.fi_ops.proofs.Sizes.{product_fits}
use Rattle.fi_ops.proofs.products.mul.Goals as goal

pub times-requires : goal.times-requires
times-requires c =
    let i = product_inside c.args.m.now (type_of c.args.a.num) (type_of c.args.b.num) (type_of c.args.t) c.requires in
    product_fits (type_of c.args.a.num) (type_of c.args.b.num) c.args.a.z c.args.b.z c.args.a.in_range c.args.b.in_range i.bits

pub returns-clause-value : goal.returns-clause-value
unfolding multiplied
returns-clause-value c =
    taken_at c.args.m.now (type_of c.args.t) c.times.result (c.args.a.z *ℤ c.args.b.z) (to_z w32 (of_z w32 c.both_fractions.result)) (c.args.a.num.fraction +ℤ c.args.b.num.fraction) c.take.result.z
    c.times.ensures (omega (arith, ints, c.both_fractions.ensures)) c.take.ensures.value
