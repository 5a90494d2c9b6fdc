use Rattle.num_type.specs.View.{type_of}
use Rattle.fi_math.proofs.Inside.{step_inside}
use Rattle.fi_ops.proofs.sums.accumulate.Goals as goal

pub join-requires : goal.join-requires
join-requires c e =
    let i = step_inside c.args.m.now (type_of c.args.a.num) (type_of c.args.t) (type_of c.args.t) e c.requires.step in
    rw c.requires.kept i.bits
