use Rattle.node_rules.proofs.Goes.{goes_given}
use Rattle.node_rules.proofs.Parted.{real_law, imaginary_law, conjugate_law}
use Rattle.node_rules.proofs.parts_go_by_their_rules.Goals as goal

pub returns : goal.returns
returns c = record { real = λ v. goes_given _ (real_law v); imaginary = λ v. goes_given _ (imaginary_law v); conjugates = λ v. goes_given _ (conjugate_law v) }
