use Rattle.std.proofs.Common.{sym, subst}
use Rattle.num_type.specs.View.{type_of}
use Rattle.c_tree.specs.View.{expr_view}
use Rattle.lower_scalar.specs.Operators.{TakesSign}
use Rattle.lower_scalar.proofs.OperatorParts.{absolute_is_part}
use Rattle.lower_op.proofs.signs.take_sign.Goals as goal

pub returns : goal.returns
returns c = subst (TakesSign c.args.m (type_of c.args.t) (expr_view c.args.e) c.args.fresh) (sym c.in_ok-r.ensures)
    (absolute_is_part c.args.m (type_of c.args.t) (expr_view c.args.e) c.args.fresh c.args.t.one_bit c.args.t.bits c.requires)
