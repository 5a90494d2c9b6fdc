use Rattle.c_tree.specs.View.{interface_view}
use Rattle.c_word.proofs.Joins.{Joins}
use Rattle.c_word.proofs.words.words_of.Given as goal

abbrev pub invariant-loop-token : goal.invariant-loop-token
invariant-loop-token l = Joins (interface_view l.interface) l.bytes l.tokens l.token-index l.words.items
