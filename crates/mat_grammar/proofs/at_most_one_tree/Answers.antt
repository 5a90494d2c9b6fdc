use Rattle.mat_grammar.proofs.CompleteFile.{one_tree}
use Rattle.mat_grammar.proofs.at_most_one_tree.Goals as goal

pub returns : goal.returns
returns c = one_tree
