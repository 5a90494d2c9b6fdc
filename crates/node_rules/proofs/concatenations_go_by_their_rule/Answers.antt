use Rattle.node_rules.proofs.Goes.{goes_given}
use Rattle.node_rules.proofs.Concatenated.{concatenated_law}
use Rattle.node_rules.proofs.concatenations_go_by_their_rule.Goals as goal

pub returns : goal.returns
returns c = λ v w ws. goes_given _ (concatenated_law v w ws)
