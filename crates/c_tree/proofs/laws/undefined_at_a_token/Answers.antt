use Rattle.c_tree.proofs.Within.{run_within}
use Rattle.c_tree.proofs.laws.undefined_at_a_token.Goals as goal

pub returns : goal.returns
returns c = run_within
