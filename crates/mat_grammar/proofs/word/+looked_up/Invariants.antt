use Rattle.std.proofs.Common.{length}
use Rattle.mat_grammar.proofs.word.+looked_up.Given as goal

abbrev pub decreases-looked_up : goal.decreases-looked_up
decreases-looked_up l = length l.words.now
