use Rattle.node_rules.proofs.Goes.{goes_given}
use Rattle.node_rules.proofs.Bits.{complemented_law}
use Rattle.node_rules.proofs.bit_complements_go_by_their_rule.Goals as goal

pub returns : goal.returns
returns c = λ v. goes_given _ (complemented_law v)
