use Rattle.std.proofs.Common.{◌≡◌, drop}
use Rattle.c_word.specs.Table.{fixed_rows, found_in, with_rows}
use Rattle.c_word.proofs.table.WordTable.put_fixed.Given as goal

abbrev pub invariant-loop-word : goal.invariant-loop-word
invariant-loop-word l = (with_rows (found_in l.self) (fixed_rows (drop l.word-index l.words)) ≡ with_rows (found_in l.initial.self) (fixed_rows l.words))
