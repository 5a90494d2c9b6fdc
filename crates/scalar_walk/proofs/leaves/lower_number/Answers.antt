use Rattle.std.proofs.Common.{length}
use Rattle.std.specs.Prelude.{true, pos}
use Rattle.scalar_walk.proofs.Passed.{literal_under}
use Rattle.scalar_walk.proofs.leaves.lower_number.Goals as goal

pub returns-clause-below : goal.returns-clause-below
returns-clause-below c = literal_under c.known.result.spot true (pos 0) (length c.count.new.out.words) c.known.ensures.spot
