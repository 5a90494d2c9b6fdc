use Rattle.std.proofs.Common.{◌≡◌, ◌+◌, suc, [], ◌∷◌, ◌++◌, length, map, drop, Some, sym, ap, ◌∙◌, arith}
use Rattle.std.proofs.lemmas.Result.{err_from_is_err_and}
use Rattle.std.proofs.lemmas.Grind.{common_steps}
use Rattle.mat_ast.specs.View.{args_of, args_view, arg_view, expr_view}
use Rattle.fi_eval.specs.Outcome.{Gives, ◌>>=◌}
use Rattle.fi_meaning.specs.Expressions as meaning
use Rattle.eval_value.specs.View.{item_view, value_view}
use Rattle.eval_source.specs.View.{context_of, env_view}
use Rattle.walk_scope.proofs.Lefts.{left_at}
use Rattle.eval_source.specs.Items.{item_value, word_at, with_item, closed, passed_view}
use Rattle.fi_rules.specs.Options.{◌|>◌}
use Rattle.fi_values.specs.Reads.{shape_of}
use Rattle.fi_values.specs.Subscripts.{extent}
use Rattle.eval_call.specs.View.{argument_view}
use Rattle.eval_source.proofs.Lists.{goes, stops, subscript_first, none_passed, argument_goes, argument_first, onward}
use Rattle.eval_source.proofs.Steps.{operands_told, skipping_told, skip_decided, skip_right, item_stops, item_passes, item_all}
use Rattle.eval_source.proofs.expressions.+evaluate.Goals as goal

pub behind_left-returns-in-None : goal.behind_left-returns-in-None
behind_left-returns-in-None g t c =
    operands_told c.evaluate_operands.result c.args.at c.args.op _ (value_view c.args.left) (meaning.value (expr_view c.args.right.now) (context_of c.args.scope.now (g.C.Caller.called c.args.caller.now)) (env_view c.args.names.now) c.args.ends)
    (sym c.decides.ensures ∙ c.in-None.is) c.evaluate_operands.ensures

pub behind_left-returns-in-Some : goal.behind_left-returns-in-Some
behind_left-returns-in-Some g t c =
    skipping_told c.skipping.result c.args.at c.args.op _ c.in-Some.truth (value_view c.args.left) (meaning.value (expr_view c.args.right.now) (context_of c.args.scope.now (g.C.Caller.called c.args.caller.now)) (env_view c.args.names.now) c.args.ends)
    (sym c.decides.ensures ∙ c.in-Some.is) c.skipping.ensures

pub item-returns-in_err-v-in-Item : goal.item-returns-in_err-v-in-Item
item-returns-in_err-v-in-Item g t c =
    let p = err_from_is_err_and c.from_residual.result c.from_residual.ensures.1 in
    rw (p.1, p.2) (item_stops c.in_err-v-in-Item.field-0.0 c.args.arg.now c.in-Item.e (context_of c.args.scope.now (g.C.Caller.called c.args.caller.now)) (env_view c.args.names.now) c.args.ends c.in-Item.is c.in_err-v-in-Item.ensures)

pub item-returns-in-All : goal.item-returns-in-All
item-returns-in-All g t c = item_all c.args.arg.now (context_of c.args.scope.now (g.C.Caller.called c.args.caller.now)) (env_view c.args.names.now) c.args.ends c.in-All.is

pub item-returns-in_ok-v-in-Item : goal.item-returns-in_ok-v-in-Item
item-returns-in_ok-v-in-Item g t c =
    item_passes c.args.arg.now c.in-Item.e (value_view c.in_ok-v-in-Item.v) (context_of c.args.scope.now (g.C.Caller.called c.args.caller.now)) (env_view c.args.names.now) c.args.ends c.in-Item.is c.in_ok-v-in-Item.ensures

pub skipping-returns-then-has_decided : goal.skipping-returns-then-has_decided
skipping-returns-then-has_decided g t c =
    skip_decided c.made_truth.result c.args.at c.args.op c.args.deciding c.has_decided.result c.truth_in-truth.result (value_view c.args.left) (meaning.value (expr_view c.args.right.now) (context_of c.args.scope.now (g.C.Caller.called c.args.caller.now)) (env_view c.args.names.now) c.args.ends)
    c.truth_in-truth.ensures c.has_decided.ensures c.if-has_decided.true c.made_truth.ensures

pub skipping-returns-else-has_decided : goal.skipping-returns-else-has_decided
skipping-returns-else-has_decided g t c =
    skip_right c.deciding_right.result c.args.at c.args.op c.args.deciding c.has_decided.result c.truth_in-truth.result (value_view c.args.left) (meaning.value (expr_view c.args.right.now) (context_of c.args.scope.now (g.C.Caller.called c.args.caller.now)) (env_view c.args.names.now) c.args.ends)
    c.truth_in-truth.ensures c.has_decided.ensures c.if-has_decided.false c.deciding_right.ensures

pub arguments-loop-arg-init : goal.arguments-loop-arg-init
arguments-loop-arg-init g t c =
    let all = meaning.arguments (args_view c.args.args.now) (context_of c.args.scope.now (g.C.Caller.called c.args.caller.now)) (env_view c.args.names.now) c.args.at c.args.ends in
    none_passed c.args.at all ∙ ap (λ p. all >>= closed c.args.at p) (sym c.new-passed.ensures)

pub arguments-loop-arg-preserved : goal.arguments-loop-arg-preserved
arguments-loop-arg-preserved g t c =
    let cx = context_of c.args.scope.now (g.C.Caller.called c.args.caller.now) in
    let env = env_view c.args.names.now in
    let k = c.loop-arg.arg-index in
    let p = passed_view c.loop-arg.passed in
    let x = item_view c.in_ok-v.v in
    let rest = map arg_view (drop (k + 1) c.args.args.now) in
    c.loop-arg.invariant
    ∙ ap (λ l. meaning.arguments (args_view l) cx env c.args.at c.args.ends >>= closed c.args.at p) (left_at c.args.args.now k c.arg-item.result c.arg-item.result c.loop-arg-test.true c.arg-item.is)
    ∙ argument_goes (arg_view c.arg-item.result) rest cx env c.args.at c.args.ends p x c.in_ok-v.ensures
    ∙ ap (λ q. meaning.arguments (args_of rest) cx env c.args.at c.args.ends >>= closed c.args.at q) (ap (with_item p x) (sym c.is_word_item.ensures) ∙ sym c.in_ok-push.ensures)

pub arguments-returns-in_err-v : goal.arguments-returns-in_err-v
arguments-returns-in_err-v g t c =
    let q = err_from_is_err_and c.from_residual.result c.from_residual.ensures.1 in
    let cx = context_of c.args.scope.now (g.C.Caller.called c.args.caller.now) in
    let env = env_view c.args.names.now in
    let k = c.loop-arg.arg-index in
    let p = passed_view c.loop-arg.passed in
    let o = arg_view c.arg-item.result in
    let rest = map arg_view (drop (k + 1) c.args.args.now) in
    let left = ap (λ l. meaning.arguments (args_view l) cx env c.args.at c.args.ends) (left_at c.args.args.now k c.arg-item.result c.arg-item.result c.loop-arg-test.true c.arg-item.is) in
    rw (q.1, q.2)
    (stops c.in_err-v.field-0.0 item_view (λ v. map argument_view v.items) (item_value o cx env c.args.ends) (onward c.args.at (word_at cx.variables cx.functions o) (meaning.arguments (args_of rest) cx env c.args.at c.args.ends))
    (meaning.arguments (args_view (drop k c.args.args.now)) cx env c.args.at c.args.ends) _ (closed c.args.at p) (left ∙ argument_first o rest cx env c.args.at c.args.ends) c.loop-arg.invariant c.in_err-v.ensures)

pub subscript_values-loop-arg-preserved : goal.subscript_values-loop-arg-preserved
subscript_values-loop-arg-preserved g t c =
    let cx = context_of c.args.scope.now (g.C.Caller.called c.args.caller.now) in
    let env = env_view c.args.names.now in
    let k = c.loop-arg.arg-index in
    let o = arg_view c.arg-item.result in
    let v = env c.args.name.now in
    let rest = map arg_view (drop (k + 1) c.args.args.now) in
    let inside = c.end_in-inside.ensures ∙ ap (λ n. v |> (λ u. Some (extent (shape_of u) n c.args.many))) (c.number_of.ensures ∙ c.loop-arg.invariant.1) in
    let left = ap (λ l. meaning.subscript_values (args_view l) cx env c.args.at v k c.args.many) (left_at c.args.args.now k c.arg-item.result c.arg-item.result c.loop-arg-test.true c.arg-item.is) in (
      goes item_view c.loop-arg.values.items c.add_item.new.items.items c.in_ok-v.v (item_value o cx env (v |> (λ u. Some (extent (shape_of u) k c.args.many))))
          (meaning.subscript_values (args_view (drop k c.args.args.now)) cx env c.args.at v k c.args.many) (meaning.subscript_values (args_of rest) cx env c.args.at v (k + 1) c.args.many)
          (meaning.subscript_values (args_view c.args.args.now) cx env c.args.at v 0 c.args.many) c.in_ok-add_item.ensures (ap (λ e. item_value o cx env e) (sym inside) ∙ c.in_ok-v.ensures)
          (left ∙ subscript_first o rest cx env c.args.at v k c.args.many ∙ ap (λ n. item_value o cx env (v |> (λ u. Some (extent (shape_of u) k c.args.many))) >>= (λ y. meaning.subscript_values (args_of rest) cx env c.args.at v n c.args.many >>= (λ ys. Gives (y ∷ ys)))) (let e : suc k ≡ k + 1 = omega arith in e))
          c.loop-arg.invariant.0,
      ap length c.in_ok-add_item.ensures ∙ (let e : length (c.loop-arg.values.items ++ c.in_ok-v.v ∷ []) ≡ length c.loop-arg.values.items + 1 = grind (arith, common_steps) in e) ∙ ap (λ n. n + 1) c.loop-arg.invariant.1,
    )

pub subscript_values-returns-in_err-v : goal.subscript_values-returns-in_err-v
subscript_values-returns-in_err-v g t c =
    let q = err_from_is_err_and c.from_residual.result c.from_residual.ensures.1 in
    let cx = context_of c.args.scope.now (g.C.Caller.called c.args.caller.now) in
    let env = env_view c.args.names.now in
    let k = c.loop-arg.arg-index in
    let o = arg_view c.arg-item.result in
    let v = env c.args.name.now in
    let rest = map arg_view (drop (k + 1) c.args.args.now) in
    let inside = c.end_in-inside.ensures ∙ ap (λ n. v |> (λ u. Some (extent (shape_of u) n c.args.many))) (c.number_of.ensures ∙ c.loop-arg.invariant.1) in
    let left = ap (λ l. meaning.subscript_values (args_view l) cx env c.args.at v k c.args.many) (left_at c.args.args.now k c.arg-item.result c.arg-item.result c.loop-arg-test.true c.arg-item.is) in
    rw (q.1, q.2)
    (stops c.in_err-v.field-0.0 item_view (λ v. map item_view v.items) (item_value o cx env c.end_in-inside.result) (λ y. meaning.subscript_values (args_of rest) cx env c.args.at v (suc k) c.args.many >>= (λ ys. Gives (y ∷ ys)))
    (meaning.subscript_values (args_view (drop k c.args.args.now)) cx env c.args.at v k c.args.many) _ (λ xs. Gives (map item_view c.loop-arg.values.items ++ xs))
    (left ∙ subscript_first o rest cx env c.args.at v k c.args.many ∙ ap (λ e. item_value o cx env e >>= (λ y. meaning.subscript_values (args_of rest) cx env c.args.at v (suc k) c.args.many >>= (λ ys. Gives (y ∷ ys)))) (sym inside))
    c.loop-arg.invariant.0 c.in_err-v.ensures)
