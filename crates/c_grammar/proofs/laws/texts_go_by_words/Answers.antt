use Rattle.c_grammar.proofs.SpelledWords.{to_text, to_words, live_to_text, live_to_words}
use Rattle.c_grammar.proofs.laws.texts_go_by_words.Goals as goal

pub returns-clause-whole : goal.returns-clause-whole
returns-clause-whole c = λ i. λ p. λ ts. λ ws. λ it. λ h. (to_text i p ts ws h, to_words i it p ts ws h)

pub returns-clause-live : goal.returns-clause-live
returns-clause-live c = λ i. λ ts. λ ws. λ it. λ h. (live_to_text i ts ws h, live_to_words i it ts ws h)
