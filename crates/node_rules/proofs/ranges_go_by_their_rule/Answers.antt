use Rattle.node_rules.proofs.Goes.{goes_given}
use Rattle.node_rules.proofs.Ranges.{range_law}
use Rattle.node_rules.proofs.ranges_go_by_their_rule.Goals as goal

pub returns : goal.returns
returns c = λ v s y. goes_given _ (range_law v s y)
