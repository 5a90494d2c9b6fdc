use Rattle.std.proofs.Common.{sym, subst, pos}
use Rattle.std.specs.Prelude.{ℤ}
use Rattle.std.proofs.lemmas.List.Elements.{All-same}
use Rattle.num_type.specs.Types.{IsInRange}
use Rattle.num_type.specs.View.{type_of}
use Rattle.fi_values.specs.Elements.{picked}
use Rattle.eval_math.proofs.Added.{picked_inside}
use Rattle.eval_math.proofs.Zero.{zero_inside}
use Rattle.eval_math.proofs.fi_products.stored_at.Goals as goal

pub returns-clause-inside : goal.returns-clause-inside
returns-clause-inside c =
    All-same (IsInRange (type_of c.args.t)) c.in_ok-v.v.items (picked c.of.result c.args.xs.now c.args.places.now) c.in_ok-v.ensures
    (picked_inside (IsInRange (type_of c.args.t)) c.of.result c.args.xs.now c.args.places.now (subst (IsInRange (type_of c.args.t)) (sym c.of.ensures) (zero_inside (type_of c.args.t))) c.requires)
