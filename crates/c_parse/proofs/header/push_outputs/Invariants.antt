use Rattle.std.proofs.Common.{◌≡◌, ◌++◌, ◌+◌, [], drop}
use Rattle.c_grammar.specs.Sentence.{output_words}
use Rattle.c_parse.proofs.header.push_outputs.Given as goal

abbrev pub invariant-loop-k : goal.invariant-loop-k
invariant-loop-k l = (l.words ++ output_words (l.first + l.k) (drop l.k l.arrays) [] ≡ l.initial.words ++ output_words l.first l.arrays [])
