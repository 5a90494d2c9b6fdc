use Rattle.std.proofs.Common.{length, refl, ap}
use Rattle.std.specs.Prelude.{true, pos}
use Rattle.fi_rules.specs.View.{ty_view, number_view}
use Rattle.scalar_walk.specs.View.{held_view, emitted_view, low_view}
use Rattle.scalar_walk.proofs.Computed.{known_low, constant_sign}
use Rattle.scalar_walk.proofs.Passed.{literal_under}
use Rattle.scalar_walk.proofs.turns.with_sign.Goals as goal

pub returns-in-Constant-clause-low : goal.returns-in-Constant-clause-low
returns-in-Constant-clause-low c =
    let em = emitted_view c.args.out.now in
    constant_sign c.args.op (held_view c.args.x.now) c.args.signed c.in-Constant.c em (low_view c.known.result c.args.out.now) c.in-Constant.is c.requires.kind
    (known_low c.known.result (number_view c.in-Constant.c) em c.args.out.now (ap ty_view c.known.ensures.ty) c.known.ensures.spot refl)

pub returns-in-Constant-clause-below : goal.returns-in-Constant-clause-below
returns-in-Constant-clause-below c = literal_under c.known.result.spot true (pos 0) (length c.args.out.now.words) c.known.ensures.spot
