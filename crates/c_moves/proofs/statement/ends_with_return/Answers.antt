use Rattle.c_moves.proofs.Blocks.{ends}
use Rattle.c_moves.proofs.statement.ends_with_return.Goals as goal

pub returns-in-Some : goal.returns-in-Some
returns-in-Some c = ends c.args.done.now c.in-Some.field-0-1.now c.in-Some.last.now c.is_return.result c.in-Some.ensures.cases.0 c.is_return.ensures
