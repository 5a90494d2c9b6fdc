use Rattle.std.proofs.Common.{ap}
use Rattle.fi_rules.specs.View.{ty_view}
use Rattle.fi_rules.specs.Calls.{Attached}
use Rattle.scalar_program.specs.Lowered.{IsBuilt}
use Rattle.scalar_walk.specs.View.{held_view, spot_view}
use Rattle.scalar_walk.proofs.Passed.{of_first, attached_built}
use Rattle.scalar_walk.proofs.Granted.{attached_fi}
use Rattle.scalar_walk.proofs.calls.attach.Goals as goal

pub returns-clause-low : goal.returns-clause-low
returns-clause-low c =
    λ em.
    of_first c.args.types.now c.args.spots.now c.in-Some-Some.ty.now c.in-Some-Some.spot.now c.in-Some-Some.ensures.value c.in-Some-Some.ensures'.value
    (λ us ps. IsBuilt (Attached c.args.math) us ps em (record { held = held_view c.attach_to.result; emitted = em }))
    (λ us ps. attached_built c.args.math (ty_view c.in-Some-Some.ty.now) us (spot_view c.in-Some-Some.spot.now) ps c.attach_to.result (attached_fi c.args.math c.args.types.now c.in-Some-Some.ty.now c.in-Some-Some.ensures.value c.requires.granted) c.attach_to.ensures.ty (ap spot_view c.attach_to.ensures.spot) em)
