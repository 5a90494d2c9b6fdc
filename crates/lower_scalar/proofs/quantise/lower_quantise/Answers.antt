use Rattle.std.proofs.Common.{sym, subst}
use Rattle.num_type.specs.View.{type_of}
use Rattle.c_tree.specs.View.{expr_view}
use Rattle.lower_scalar.specs.Part.{Quantises}
use Rattle.lower_scalar.proofs.QuantiseParts.{quantised_is_part}
use Rattle.lower_scalar.proofs.quantise.lower_quantise.Goals as goal

pub returns : goal.returns
returns c = subst (Quantises c.args.method c.args.action (type_of c.args.t) (type_of c.args.from) (expr_view c.args.e) c.args.fresh) (sym c.in_ok-p.ensures)
    (quantised_is_part c.args.method c.args.action (type_of c.args.t) (type_of c.args.from) (expr_view c.args.e) c.args.fresh c.args.t.one_bit c.args.t.bits c.args.from.one_bit c.args.from.bits c.requires.reads)
