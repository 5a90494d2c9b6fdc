use Rattle.c_grammar.proofs.OneWord.{one_word}
use Rattle.c_grammar.proofs.laws.one_word.Goals as goal

pub returns : goal.returns
returns c = λ i. λ v. λ w. λ it. one_word i it v w
