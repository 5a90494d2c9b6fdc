use Rattle.mat_grammar.proofs.Decide.{decided}
use Rattle.mat_grammar.proofs.every_list_is_decided.Goals as goal

pub returns : goal.returns
returns c = decided
