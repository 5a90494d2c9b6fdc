use Rattle.node_rules.proofs.Goes.{goes_given}
use Rattle.node_rules.proofs.Queries.{numel_law, length_law, size_law}
use Rattle.node_rules.proofs.queries_go_by_their_rules.Goals as goal

pub returns : goal.returns
returns c = record { numel = λ v. goes_given _ (numel_law v); length = λ v. goes_given _ (length_law v); size = λ v d. goes_given _ (size_law v d) }
