use Rattle.std.proofs.Common.{map, Some, Err, sym, ap, subst, ◌∙◌}
use Rattle.std.proofs.lemmas.Result.{err_from_is_err_and}
use Rattle.mat_ast.specs.View.{args_view}
use Rattle.fi_eval.specs.Outcome.{◌>>=◌, or_wrong}
use Rattle.fi_values.specs.Stores.{stored}
use Rattle.fi_values.specs.Subscripts.{as_subscripts}
use Rattle.fi_meaning.specs.Expressions.{subscript_values, args_count, site_of}
use Rattle.eval_value.specs.Tells.{Tells}
use Rattle.eval_value.specs.View.{item_view, value_view}
use Rattle.eval_value.specs.declared.halt.Halt.TheVariants as halt
use Rattle.eval_source.specs.View.{context_of, env_view}
use Rattle.eval_call.proofs.Follow.{after_err}
use Rattle.eval_source.proofs.Follow.{no_value}
use Rattle.eval_source.proofs.Targets.{has_some, store_stops, store_goes}
use Rattle.eval_source.proofs.assignments.stored_value.Goals as goal

pub returns-in-None : goal.returns-in-None
returns-in-None g c =
    let env = env_view c.args.names.now in
    let at = c.args.to.now.place in
    after_err (halt.Wrong at) value_view value_view (or_wrong at (env c.args.to.now.text))
    (λ old. subscript_values (args_view c.args.args.now) (context_of c.args.scope.now (g.C.Caller.called c.args.caller.now)) env at (Some old) 0 (args_count (args_view c.args.args.now)) >>= (λ ks. or_wrong at (as_subscripts ks) >>= (λ subs. stored at (site_of c.args.opens) old subs (value_view c.args.value.now))))
    (no_value c.get.result (env c.args.to.now.text) c.args.to.now.place (c.get.ensures ∙ ap env c.as_bytes.ensures) c.in-None.is)

pub returns-in_err-ks-in-Some : goal.returns-in_err-ks-in-Some
returns-in_err-ks-in-Some g c =
    let p = err_from_is_err_and c.from_residual.result c.from_residual.ensures.1 in
    let env = env_view c.args.names.now in
    let cx = (context_of c.args.scope.now (g.C.Caller.called c.args.caller.now)) in
    let at = c.args.to.now.place in
    let args = args_view c.args.args.now in
    rw (p.1, p.2)
    (store_stops c.in_err-ks-in-Some.field-0.0 (λ v. map item_view v.items) at (env c.args.to.now.text) (value_view c.in-Some.old.now) (λ o. subscript_values (args_view c.args.args.now) (context_of c.args.scope.now (g.C.Caller.called c.args.caller.now)) (env_view c.args.names.now) c.args.to.now.place o 0 (args_count (args_view c.args.args.now)))
    (λ old ks. or_wrong c.args.to.now.place (as_subscripts ks) >>= (λ subs. stored c.args.to.now.place (site_of c.args.opens) old subs (value_view c.args.value.now)))
    (has_some c.get.result (env c.args.to.now.text) c.in-Some.old (c.get.ensures ∙ ap env c.as_bytes.ensures) c.in-Some.is)
    (subst (λ n. Tells (Err c.in_err-ks-in-Some.field-0.0) (λ v. map item_view v.items) (subscript_values args cx env at (env c.args.to.now.text) 0 n)) c.count_of-many.ensures
    (subst (λ b. Tells (Err c.in_err-ks-in-Some.field-0.0) (λ v. map item_view v.items) (subscript_values args cx env at (env b) 0 c.count_of-many.result)) c.as_bytes-name.ensures c.in_err-ks-in-Some.ensures)))

pub returns-in_ok-ks-in-Some : goal.returns-in_ok-ks-in-Some
returns-in_ok-ks-in-Some g c =
    let env = env_view c.args.names.now in
    let cx = (context_of c.args.scope.now (g.C.Caller.called c.args.caller.now)) in
    let at = c.args.to.now.place in
    let args = args_view c.args.args.now in
    store_goes c.store_at.result at (env c.args.to.now.text) (value_view c.in-Some.old.now) (map item_view c.in_ok-ks-in-Some.ks.items) (λ o. subscript_values (args_view c.args.args.now) (context_of c.args.scope.now (g.C.Caller.called c.args.caller.now)) (env_view c.args.names.now) c.args.to.now.place o 0 (args_count (args_view c.args.args.now)))
    (λ old ks. or_wrong c.args.to.now.place (as_subscripts ks) >>= (λ subs. stored c.args.to.now.place (site_of c.args.opens) old subs (value_view c.args.value.now)))
    (has_some c.get.result (env c.args.to.now.text) c.in-Some.old (c.get.ensures ∙ ap env c.as_bytes.ensures) c.in-Some.is)
    (ap (λ n. subscript_values args cx env at (env c.args.to.now.text) 0 n) (sym c.count_of-many.ensures) ∙ ap (λ b. subscript_values args cx env at (env b) 0 c.count_of-many.result) (sym c.as_bytes-name.ensures) ∙ c.in_ok-ks-in-Some.ensures)
    c.store_at.ensures
