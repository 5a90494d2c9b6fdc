use Rattle.std.proofs.Common.{◌∙◌}
use Rattle.std.proofs.lemmas.Result.{err_from_is_err_and}
use Rattle.mat_ast.specs.View.{funcs_view}
use Rattle.eval_value.specs.View.{row_view}
use Rattle.eval_source.proofs.Entries.{no_call, call_refused, call_goes, call_stops}
use Rattle.eval_source.proofs.levels.AboveLevel.call.Goals as goal

pub returns-in-None : goal.returns-in-None
returns-in-None g c =
    no_call c.function_named.result (funcs_view c.args.funcs.now) c.args.turns g.L.Level.depth c.args.running.now c.args.at c.args.name.now (row_view c.args.values) c.args.wanted c.function_named.ensures c.in-None.is

pub returns-then-is_refused : goal.returns-then-is_refused
returns-then-is_refused g c =
    call_refused c.function_named.result c.in-Some.f (funcs_view c.args.funcs.now) c.args.turns g.L.Level.depth c.args.running.now c.args.at c.args.name.now (row_view c.args.values) c.args.wanted c.is_refused.result
    c.function_named.ensures c.in-Some.is c.is_refused.ensures c.if-is_refused.true

pub returns-in_ok-outputs-in-Some : goal.returns-in_ok-outputs-in-Some
returns-in_ok-outputs-in-Some g c =
    call_goes c.first_outputs.result c.function_named.result c.in-Some.f (funcs_view c.args.funcs.now) c.args.turns g.L.Level.depth c.args.running.now c.as_slice.result.now c.args.at c.args.name.now (row_view c.args.values)
    (row_view c.in_ok-outputs-in-Some.outputs) c.args.wanted c.is_refused.result c.function_named.ensures c.in-Some.is c.is_refused.ensures c.if-is_refused.false (c.as_slice.ensures.value ∙ c.in_ok-inner-in-Some.ensures)
    c.in_ok-outputs-in-Some.ensures c.first_outputs.ensures

pub returns-in_err-outputs-in-Some : goal.returns-in_err-outputs-in-Some
returns-in_err-outputs-in-Some g c =
    let p = err_from_is_err_and c.from_residual-in_err-outputs-in-Some.result c.from_residual-in_err-outputs-in-Some.ensures.1 in
    rw (p.1, p.2) (call_stops c.in_err-outputs-in-Some.field-0.0 c.function_named.result c.in-Some.f (funcs_view c.args.funcs.now) c.args.turns g.L.Level.depth c.args.running.now c.as_slice.result.now c.args.at c.args.name.now
    (row_view c.args.values) c.args.wanted c.is_refused.result c.function_named.ensures c.in-Some.is c.is_refused.ensures c.if-is_refused.false (c.as_slice.ensures.value ∙ c.in_ok-inner-in-Some.ensures) c.in_err-outputs-in-Some.ensures)
