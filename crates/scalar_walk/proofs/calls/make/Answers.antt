use Rattle.std.proofs.Common.{length}
use Rattle.std.specs.Prelude.{true, pos}
use Rattle.scalar_walk.proofs.Passed.{literal_under}
use Rattle.scalar_walk.proofs.calls.make.Goals as goal

pub returns-in-Type-clause-below : goal.returns-in-Type-clause-below
returns-in-Type-clause-below c = literal_under c.known.result.spot true (pos 0) (length c.args.out.now.words) c.known.ensures.spot

pub returns-in-Math-clause-below : goal.returns-in-Math-clause-below
returns-in-Math-clause-below c = literal_under c.known-in-Math.result.spot true (pos 0) (length c.args.out.now.words) c.known-in-Math.ensures.spot
