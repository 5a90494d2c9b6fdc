use Rattle.std.proofs.Common.{ap, ◌∙◌}
use Rattle.fi_meaning.specs.Environment.{assigned}
use Rattle.eval_value.specs.View.{value_view}
use Rattle.eval_source.specs.View.{env_view}
use Rattle.eval_source.proofs.Tables.{value_put}
use Rattle.eval_source.proofs.variables.Variables.set.Goals as goal

pub returns : goal.returns
returns c = λ i. λ other.
    (value_put c.in_ok-key.key.items c.args.value c.args.self.now.table c.insert.new.self c.in-Ok.ensures.updates other
    ∙ ap (λ b. assigned b (value_view c.args.value) (env_view c.args.self.now) other) c.in_ok-key.ensures.items) i
