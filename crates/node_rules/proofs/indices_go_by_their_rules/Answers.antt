use Rattle.node_rules.proofs.Indices.{items_value_law}
use Rattle.node_rules.proofs.Spans.{result_in}
use Rattle.node_rules.proofs.indices_go_by_their_rules.Goals as goal

pub returns : goal.returns
returns c = record { value = items_value_law; span = result_in }
