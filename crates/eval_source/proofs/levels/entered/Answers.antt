use Rattle.std.proofs.Common.{[], ◌∷◌, ap, ◌∙◌}
use Rattle.std.proofs.lemmas.Result.{err_from_is_err_and}
use Rattle.mat_ast.specs.View.{func_view, funcs_view}
use Rattle.eval_value.specs.View.{row_view}
use Rattle.eval_source.specs.View.{env_view}
use Rattle.eval_source.proofs.Entries.{entered_goes, entered_stops}
use Rattle.eval_source.proofs.levels.entered.Goals as goal

pub returns : goal.returns
returns c =
    entered_goes c.outputs_at.result c.as_slice.result.now (funcs_view c.args.funcs.now) (func_view c.args.f.now) (row_view c.args.values) c.args.turns (env_view c.in_ok-names.names)
    (c.as_slice.ensures.value ∙ c.in_ok-running.ensures ∙ ap (λ b. b ∷ []) c.as_bytes.ensures) c.in_ok-names.ensures c.outputs_at.ensures

pub returns-in_err-names : goal.returns-in_err-names
returns-in_err-names c =
    let p = err_from_is_err_and c.from_residual-in_err-names.result c.from_residual-in_err-names.ensures.1 in
    rw (p.1, p.2) (entered_stops c.in_err-names.field-0.0 env_view c.as_slice.result.now (funcs_view c.args.funcs.now) (func_view c.args.f.now) (row_view c.args.values) c.args.turns
    (c.as_slice.ensures.value ∙ c.in_ok-running.ensures ∙ ap (λ b. b ∷ []) c.as_bytes.ensures) c.in_err-names.ensures)
