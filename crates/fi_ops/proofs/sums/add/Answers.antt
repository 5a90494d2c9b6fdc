use Rattle.num_type.specs.View.{type_of}
use Rattle.fi_math.proofs.Inside.{sum_inside}
use Rattle.fi_ops.proofs.sums.add.Goals as goal

pub join-requires : goal.join-requires
join-requires c e = (sum_inside c.args.m.now (type_of c.args.a.num) (type_of c.args.b.num) (type_of c.args.t) c.requires).bits
