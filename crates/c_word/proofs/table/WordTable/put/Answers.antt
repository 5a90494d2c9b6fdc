use Rattle.c_word.proofs.Tables.{word_put}
use Rattle.c_word.proofs.table.WordTable.put.Goals as goal

pub returns : goal.returns
returns c = λ i. λ other. (word_put c.args.text.items c.args.word c.args.self.now.table c.insert.new.self c.in-Ok.ensures.updates other) i
