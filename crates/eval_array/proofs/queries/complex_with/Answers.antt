use Rattle.eval_array.proofs.Joined.{no_complex_with}
use Rattle.eval_array.proofs.queries.complex_with.Goals as goal

pub returns-in_default : goal.returns-in_default
returns-in_default c = no_complex_with c.args.a.now c.args.w.now c.in_default.not-Fi
