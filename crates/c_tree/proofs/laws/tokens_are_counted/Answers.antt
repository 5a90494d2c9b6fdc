use Rattle.c_tree.proofs.Count.{spelled_length}
use Rattle.c_tree.proofs.laws.tokens_are_counted.Goals as goal

pub returns : goal.returns
returns c = spelled_length
