use Rattle.std.proofs.Common.{sym, subst}
use Rattle.mat_ast.specs.View.{expr_view}
use Rattle.eval_value.specs.Tells.{Tells}
use Rattle.eval_value.specs.View.{row_view}
use Rattle.eval_source.specs.View.{context_of, env_view}
use Rattle.eval_source.proofs.Targets.{one_wanted, many_wanted}
use Rattle.eval_source.proofs.assignments.output_values.Goals as goal

pub returns-then-wanted-eq1 : goal.returns-then-wanted-eq1
returns-then-wanted-eq1 g c =
    subst (λ o. Tells c.one_output.result row_view o) (sym (one_wanted (expr_view c.args.e.now) (context_of c.args.scope.now (g.C.Caller.called c.args.caller.now)) (env_view c.args.names.now) c.args.wanted c.if-wanted-eq1.true)) c.one_output.ensures

pub returns-else-wanted-eq1 : goal.returns-else-wanted-eq1
returns-else-wanted-eq1 g c =
    subst (λ o. Tells c.call_outputs.result row_view o) (sym (many_wanted (expr_view c.args.e.now) (context_of c.args.scope.now (g.C.Caller.called c.args.caller.now)) (env_view c.args.names.now) c.args.wanted c.if-wanted-eq1.false)) c.call_outputs.ensures
