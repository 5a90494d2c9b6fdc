use Rattle.node_rules.proofs.Goes.{goes_given}
use Rattle.node_rules.proofs.Bits.{sliced_law}
use Rattle.node_rules.proofs.bit_slices_go_by_their_rule.Goals as goal

pub returns : goal.returns
returns c = λ v l r. goes_given _ (sliced_law v l r)
