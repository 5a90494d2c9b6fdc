use Rattle.c_grammar.proofs.Decided.{finished, finish_is}
use Rattle.c_grammar.proofs.Reached.{live, unlive}
use Rattle.c_grammar.proofs.laws.machine_decides.Goals as goal

pub returns-clause-whole : goal.returns-clause-whole
returns-clause-whole c = λ i. λ p. λ ws. λ it. (finished i p ws, finish_is i it p ws)

pub returns-clause-live : goal.returns-clause-live
returns-clause-live c = λ i. λ ws. λ it. (unlive i ws, live i it ws)
