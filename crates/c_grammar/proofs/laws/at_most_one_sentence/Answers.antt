use Rattle.c_grammar.proofs.Decided.{one_sentence}
use Rattle.c_grammar.proofs.laws.at_most_one_sentence.Goals as goal

pub returns : goal.returns
returns c = one_sentence
