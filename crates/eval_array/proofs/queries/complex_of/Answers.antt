use Rattle.eval_array.proofs.Joined.{no_complex}
use Rattle.eval_array.proofs.queries.complex_of.Goals as goal

pub returns-in_default : goal.returns-in_default
returns-in_default c = no_complex c.args.v.now c.args.w.now c.in_default.not-Fi
