use Rattle.c_moves.proofs.Blocks.{with_one}
use Rattle.c_moves.proofs.statement.with_statement.Goals as goal

pub returns-in-Ok : goal.returns-in-Ok
returns-in-Ok c = with_one c.args.past c.push.new.self c.args.statement c.in-Ok.ensures.ok
