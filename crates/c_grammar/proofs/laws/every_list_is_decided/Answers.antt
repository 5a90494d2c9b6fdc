use Rattle.c_grammar.proofs.Decided.{decided}
use Rattle.c_grammar.proofs.laws.every_list_is_decided.Goals as goal

pub returns : goal.returns
returns c = λ i. λ ws. λ it. decided i it ws
