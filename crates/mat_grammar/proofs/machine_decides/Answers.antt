use Rattle.mat_grammar.proofs.CompleteFile.{whole_runs}
use Rattle.mat_grammar.proofs.Sound.{run_whole}
use Rattle.mat_grammar.proofs.machine_decides.Goals as goal

pub returns : goal.returns
returns c = λ fs ts. (whole_runs fs ts, λ h. run_whole ts fs h)
