use Rattle.std.proofs.Common.{arith}
use Rattle.c_parse.proofs.Read.{still_owed}
use Rattle.c_parse.proofs.parser.whole.Goals as goal

pub returns-then-at-len : goal.returns-then-at-len
returns-then-at-len c = rw c.refuse.ensures (still_owed c.args.reader (omega (arith, c.if-at-len.true, c.len.ensures)))
