use Rattle.node_rules.proofs.Goes.{goes_given, goes_typed}
use Rattle.node_rules.proofs.Joined.{bracket_law}
use Rattle.node_rules.proofs.brackets_go_by_their_rule.Goals as goal

pub returns : goal.returns
returns c = record { values = λ rows. goes_given _ (bracket_law rows); types = λ rows t. goes_typed _ t (bracket_law rows) }
