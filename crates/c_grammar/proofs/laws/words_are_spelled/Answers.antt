use Rattle.c_grammar.proofs.OneProgram.{all_tokens}
use Rattle.c_grammar.proofs.TiedProgram.{spelled_words}
use Rattle.c_grammar.proofs.laws.words_are_spelled.Goals as goal

pub returns-clause-tokens : goal.returns-clause-tokens
returns-clause-tokens c = all_tokens

pub returns-clause-texts : goal.returns-clause-texts
returns-clause-texts c = spelled_words
