use Rattle.node_rules.proofs.Goes.{goes_given}
use Rattle.node_rules.proofs.Bits.{shifted_law}
use Rattle.node_rules.proofs.shifts_go_by_their_rule.Goals as goal

pub returns : goal.returns
returns c = λ f v k. goes_given _ (shifted_law f v k)
