use Rattle.node_rules.proofs.Makers.{maker_given}
use Rattle.node_rules.proofs.makers_go_by_their_rules.Goals as goal

pub returns : goal.returns
returns c = maker_given
