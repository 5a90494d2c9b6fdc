use Rattle.mat_grammar.proofs.Refusals.{one_refusal, file_not_refused}
use Rattle.mat_grammar.proofs.one_refusal.Goals as goal

pub returns-clause-once : goal.returns-clause-once
returns-clause-once c = one_refusal

pub returns-clause-none : goal.returns-clause-none
returns-clause-none c = file_not_refused
