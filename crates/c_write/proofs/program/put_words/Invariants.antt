use Rattle.std.proofs.Common.{◌≡◌, ◌++◌, drop}
use Rattle.c_tree.specs.Layout.{words_text}
use Rattle.c_write.proofs.program.put_words.Given as goal

abbrev pub invariant-loop-k : goal.invariant-loop-k
invariant-loop-k l = (l.out.items ++ words_text l.k (drop l.k l.words) ≡ l.initial.out.items ++ words_text 0 l.words)
