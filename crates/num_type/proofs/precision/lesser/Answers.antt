use Rattle.std.proofs.Common.{◌≡◌, to_z, of_z, arith}
use Rattle.std.specs.Int.{w32, int_min}
use Rattle.std.proofs.lemmas.Int.{ints, clamps}
use Rattle.num_type.proofs.Held.{none_both, upto_both, some_either, upto_left, upto_lesser}
use Rattle.num_type.proofs.precision.lesser.Goals as goal

pub returns-in-None-clause-none : goal.returns-in-None-clause-none
returns-in-None-clause-none c = none_both c.args.a c.args.b c.in-None.is

pub returns-in-None-clause-both : goal.returns-in-None-clause-both
returns-in-None-clause-both c = upto_both c.args.a c.args.b c.in-None.is

pub returns-in-None-b-clause-none : goal.returns-in-None-b-clause-none
returns-in-None-b-clause-none c = some_either c.args.a c.args.b c.in-Some.x c.in-Some.is

pub returns-in-None-b-clause-both : goal.returns-in-None-b-clause-both
returns-in-None-b-clause-both c =
    upto_left c.args.a c.args.b c.in-Some.x (to_z w32 (of_z w32 c.in-Some.x)) c.in-Some.is c.in-None-b.is (omega (arith, ints))

pub returns-in-Some-b-clause-none : goal.returns-in-Some-b-clause-none
returns-in-Some-b-clause-none c = some_either c.args.a c.args.b c.in-Some.x c.in-Some.is

pub returns-in-Some-b-clause-both : goal.returns-in-Some-b-clause-both
returns-in-Some-b-clause-both c =
    let least : to_z w32 (of_z w32 c.min.result) ≡ int_min c.in-Some.x c.in-Some-b.y = omega (arith, ints, clamps, c.min.ensures.value) in
    upto_lesser c.args.a c.args.b c.in-Some.x c.in-Some-b.y (to_z w32 (of_z w32 c.min.result)) c.in-Some.is c.in-Some-b.is least
