use Rattle.std.proofs.Common.{◌≤◌, sym, subst, length}
use Rattle.num_type.specs.View.{type_of}
use Rattle.c_tree.specs.View.{expr_view}
use Rattle.lower_scalar.specs.Part.{Part}
use Rattle.lower_scalar.proofs.CastSums.{few_words}
use Rattle.lower_op.proofs.casts.take.Goals as goal

pub returns-clause-few : goal.returns-clause-few
returns-clause-few c = subst (λ (p : Part). length p.words ≤ 100) (sym c.in_ok-r.ensures) (few_words c.args.m.rounding c.args.m.overflow (type_of c.args.t) (type_of c.args.p) (expr_view c.args.a) c.args.fresh)
