use Rattle.node_rules.proofs.Ranges.{loop_law}
use Rattle.node_rules.proofs.loops_go_by_their_rule.Goals as goal

pub returns : goal.returns
returns c = loop_law
