use Rattle.node_rules.proofs.Counted.{pair_shaped, calling_shaped}
use Rattle.node_rules.proofs.nodes_are_counted_by_their_shapes.Goals as goal

pub returns : goal.returns
returns c = record { operators = λ o m. pair_shaped o m; functions = λ m. calling_shaped m }
