use Rattle.num_type.specs.View.{type_of}
use Rattle.lower_scalar.specs.Part.{part_view}
use Rattle.scalar_program.proofs.Literals.{literal_reach}
use Rattle.std.proofs.Common.{arith}
use Rattle.scalar_walk.specs.View.{spot_view, emitted_view, low_view}
use Rattle.scalar_walk.proofs.Computed.{taken_fi}
use Rattle.scalar_walk.proofs.calls.take_from.Goals as goal

pub returns-in_ok-h-in-Fi-clause-low : goal.returns-in_ok-h-in-Fi-clause-low
returns-in_ok-h-in-Fi-clause-low c =
    taken_fi (type_of c.args.num) c.args.math c.args.ty.now c.in-Fi.from c.in-Fi.field-1 (spot_view c.args.spot) (emitted_view c.args.out.now) (low_view c.in_ok-h-in-Fi.h c.set_part.new.out) c.in-Fi.is
    (record { own = part_view c.in_ok-part-in-Fi.part; quantises = c.in_ok-part-in-Fi.ensures.part; is = c.in_ok-h-in-Fi.ensures.low })

pub returns-in-Number-clause-below : goal.returns-in-Number-clause-below
returns-in-Number-clause-below c = omega (arith, literal_reach c.signed.result c.constant_in.result)
