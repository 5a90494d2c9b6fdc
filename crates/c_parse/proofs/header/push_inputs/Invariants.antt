use Rattle.std.proofs.Common.{◌≡◌, ◌++◌, ◌+◌, [], drop}
use Rattle.c_grammar.specs.Sentence.{input_words}
use Rattle.c_parse.proofs.header.push_inputs.Given as goal

abbrev pub invariant-loop-k : goal.invariant-loop-k
invariant-loop-k l = (l.words ++ input_words (l.first + l.k) (drop l.k l.arrays) [] ≡ l.initial.words ++ input_words l.first l.arrays [])
