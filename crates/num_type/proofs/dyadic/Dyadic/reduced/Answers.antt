use Rattle.std.proofs.Common.{arith}
use Rattle.std.specs.Int.{w128}
use Rattle.std.proofs.lemmas.Int.{ints, to_z-of_z}
use Rattle.num_type.specs.View.{exact_of}
use Rattle.num_type.proofs.Constants.{zero_same}
use Rattle.num_type.proofs.dyadic.Dyadic.reduced.Goals as goal

pub returns-then-m-eq0-clause-same : goal.returns-then-m-eq0-clause-same
returns-then-m-eq0-clause-same c = zero_same (exact_of c.zero.result) (record { significand = c.args.m; exponent = c.args.e }) c.zero.ensures.significand (omega (arith, ints, c.if-m-eq0.true, to_z-of_z w128 c.args.m c.ranges.m))
