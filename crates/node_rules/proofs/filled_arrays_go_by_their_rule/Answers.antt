use Rattle.node_rules.proofs.Filling.{filled_given}
use Rattle.node_rules.proofs.filled_arrays_go_by_their_rule.Goals as goal

pub returns : goal.returns
returns c = filled_given
