use Rattle.num_type.specs.View.{type_of}
use Rattle.lower_op.specs.Arguments.{operand}
use Rattle.lower_op.proofs.Whole.{Given, sum_is}
use Rattle.lower_op.proofs.sums.add_exact.Goals as goal

pub returns : goal.returns
returns c =
    let g : Given (type_of c.args.t) (operand c.args.p c.args.a) (operand c.args.q c.args.b) c.args.fresh = record { one = c.args.t.one_bit; most = c.args.t.bits; left = record { some = c.args.p.one_bit; most = c.args.p.bits; reads = c.requires.left }; right = record { some = c.args.q.one_bit; most = c.args.q.bits; reads = c.requires.right } } in
    sum_is c.args.m (type_of c.args.t) (operand c.args.p c.args.a) (operand c.args.q c.args.b) c.args.fresh _ _ _ g c.requires.within c.requires.rule c.full_sum-full.ensures c.in_ok-sum.ensures c.in_ok-r.ensures
