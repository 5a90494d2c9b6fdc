use Rattle.node_rules.proofs.Goes.{goes_given}
use Rattle.node_rules.proofs.Parted.{complex_law}
use Rattle.node_rules.proofs.complex_values_go_by_their_rule.Goals as goal

pub returns : goal.returns
returns c = λ v w. goes_given _ (complex_law v w)
