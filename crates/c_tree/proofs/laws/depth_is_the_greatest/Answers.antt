use Rattle.c_tree.proofs.Deepest.{deepest, each_depth}
use Rattle.c_tree.proofs.laws.depth_is_the_greatest.Goals as goal

pub returns-clause-greatest : goal.returns-clause-greatest
returns-clause-greatest c = deepest

pub returns-clause-each : goal.returns-clause-each
returns-clause-each c = each_depth
