use Rattle.c_depth.specs.Read.{at_first}
use Rattle.c_depth.proofs.ReadTree.{depths_read}
use Rattle.c_depth.proofs.Walk.{as_many}
use Rattle.c_depth.proofs.laws.depths_by_words.Goals as goal

pub returns-clause-each : goal.returns-clause-each
returns-clause-each c = as_many at_first

pub returns-clause-program : goal.returns-clause-program
returns-clause-program c = depths_read
