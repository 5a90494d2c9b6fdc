use Rattle.std.proofs.Common.{◌≡◌, ◌++◌, map, drop}
use Rattle.c_tree.specs.Run.{zero_word}
use Rattle.c_run.specs.View.{word_view}
use Rattle.c_run.proofs.setup.zero_words.Given as goal

abbrev pub invariant-loop-word : goal.invariant-loop-word
invariant-loop-word l = map word_view l.words.items ++ map zero_word (drop l.word-index l.types) ≡ map zero_word l.types
