use Rattle.mat_grammar.proofs.Ends.{live, unlive, shallow, unshallow, shallow_live}
use Rattle.mat_grammar.proofs.fronts.Goals as goal

pub returns-clause-live : goal.returns-clause-live
returns-clause-live c = λ ts. (unlive ts, live ts)

pub returns-clause-shallow : goal.returns-clause-shallow
returns-clause-shallow c = λ ts. (λ h. (unlive ts (shallow_live ts h), unshallow ts h), λ h. shallow ts h.0 h.1)
