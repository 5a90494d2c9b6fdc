use Rattle.std.proofs.Common.{◌∙◌, ap, sym, subst, pos}
use Rattle.std.specs.Prelude.{ℤ}
use Rattle.std.proofs.lemmas.List.Elements.{All-same}
use Rattle.num_type.specs.Types.{IsInRange}
use Rattle.num_type.specs.View.{type_of}
use Rattle.fi_values.specs.Elements.{picked}
use Rattle.eval_math.proofs.Added.{picked_inside}
use Rattle.eval_math.proofs.Zero.{zero_inside}
use Rattle.eval_math.proofs.totals.total_at.Goals as goal

pub total-requires-clause-inside : goal.total-requires-clause-inside
total-requires-clause-inside c =
    All-same (IsInRange (type_of c.args.a)) c.as_slice.result.now (picked c.of.result c.args.xs.now c.args.places.now) (c.as_slice.ensures.value ∙ c.in_ok-addends.ensures)
    (picked_inside (IsInRange (type_of c.args.a)) c.of.result c.args.xs.now c.args.places.now (subst (IsInRange (type_of c.args.a)) (sym c.of.ensures) (zero_inside (type_of c.args.a))) c.requires.inside)
