use Rattle.std.proofs.Common.{sym, ap, ◌∙◌}
use Rattle.fi_eval.specs.Outcome.{Gives}
use Rattle.eval_source.specs.View.{env_view}
use Rattle.eval_source.proofs.Follow.{no_value, has_value}
use Rattle.eval_source.proofs.leaves.variable_value.Goals as goal

pub returns-in-None : goal.returns-in-None
returns-in-None c = no_value c.get.result (env_view c.args.names.now c.args.name.now) c.args.at c.get.ensures c.in-None.is

pub returns-in_ok-copy-in-Some : goal.returns-in_ok-copy-in-Some
returns-in_ok-copy-in-Some c =
    has_value c.get.result (env_view c.args.names.now c.args.name.now) c.args.at c.in-Some.v c.get.ensures c.in-Some.is ∙ ap Gives (sym c.in_ok-copy-in-Some.ensures)
