use Rattle.eval_math.proofs.Composed.{differs, governs}
use Rattle.eval_math.proofs.operand.governing.Goals as goal

pub returns-in-Ok : goal.returns-in-Ok
returns-in-Ok c = governs c.args.a c.args.b c.in-Ok.by c.in-Ok.ensures

pub returns-in-Err : goal.returns-in-Err
returns-in-Err c = differs c.args.a c.args.b c.in-Err.field-0 c.in-Err.ensures
