use Rattle.eval_source.proofs.Tables.{value_taken}
use Rattle.eval_source.proofs.variables.Variables.forget.Goals as goal

pub returns : goal.returns
returns c = λ i. λ other. value_taken c.args.name.now c.args.self.now.table c.remove.new.self c.remove.ensures.updates other i
