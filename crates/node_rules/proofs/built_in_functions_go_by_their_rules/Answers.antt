use Rattle.node_rules.proofs.Goes.{goes_given}
use Rattle.node_rules.proofs.Built.{function_law}
use Rattle.node_rules.proofs.built_in_functions_go_by_their_rules.Goals as goal

pub returns : goal.returns
returns c = λ f vs h. goes_given _ (function_law f vs h)
