use Rattle.eval_source.proofs.Literals.{literal_passes, literal_stops}
use Rattle.eval_source.proofs.leaves.constant_of.Goals as goal

pub returns-in-Ok : goal.returns-in-Ok
returns-in-Ok c = literal_passes c.in-Ok.c c.args.at c.args.text.now c.in-Ok.ensures.value

pub returns-in-Err : goal.returns-in-Err
returns-in-Err c = literal_stops c.in-Err.stop c.halt_of.result c.args.at c.args.text.now c.in-Err.ensures.refusal c.halt_of.ensures
