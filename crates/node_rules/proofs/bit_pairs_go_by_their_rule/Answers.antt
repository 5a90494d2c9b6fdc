use Rattle.node_rules.proofs.Goes.{goes_given}
use Rattle.node_rules.proofs.Bits.{paired_law}
use Rattle.node_rules.proofs.bit_pairs_go_by_their_rule.Goals as goal

pub returns : goal.returns
returns c = λ f v w. goes_given _ (paired_law f v w)
