use Rattle.std.proofs.Common.{◌≡◌, ◌++◌, map, drop, length}
use Rattle.mat_ast.specs.View.{args_view, expr_view, row_of, rows_view}
use Rattle.fi_eval.specs.Outcome.{Gives, ◌>>=◌}
use Rattle.fi_meaning.specs.Expressions as meaning
use Rattle.eval_value.specs.View.{item_view, row_view, value_view}
use Rattle.eval_source.specs.Items.{closed, passed_view}
use Rattle.eval_source.specs.View.{context_of, env_view}
use Rattle.eval_source.proofs.expressions.+evaluate.Given as goal

abbrev pub invariant-arguments-loop-arg : goal.invariant-arguments-loop-arg
invariant-arguments-loop-arg g l =
    let cx = context_of l.scope (g.C.Caller.called l.caller) in
    meaning.arguments (args_view l.args) cx (env_view l.names) l.at l.ends
    ≡ (meaning.arguments (args_view (drop l.arg-index l.args)) cx (env_view l.names) l.at l.ends >>= closed l.at (passed_view l.passed))

abbrev pub invariant-cell_values-loop-cell : goal.invariant-cell_values-loop-cell
invariant-cell_values-loop-cell g l =
    let cx = context_of l.scope (g.C.Caller.called l.caller) in
    meaning.row_values (row_of (map expr_view l.cells)) cx (env_view l.names) l.ends
    ≡ (meaning.row_values (row_of (map expr_view (drop l.cell-index l.cells))) cx (env_view l.names) l.ends >>= (λ xs. Gives (map value_view l.values.items ++ xs)))

abbrev pub invariant-rows_values-loop-row : goal.invariant-rows_values-loop-row
invariant-rows_values-loop-row g l =
    let cx = context_of l.scope (g.C.Caller.called l.caller) in
    meaning.rows_values (rows_view l.rows) cx (env_view l.names) l.ends
    ≡ (meaning.rows_values (rows_view (drop l.row-index l.rows)) cx (env_view l.names) l.ends >>= (λ xs. Gives (map row_view l.values.items ++ xs)))

abbrev pub invariant-subscript_values-loop-arg : goal.invariant-subscript_values-loop-arg
invariant-subscript_values-loop-arg g l =
    let cx = context_of l.scope (g.C.Caller.called l.caller) in
    let env = env_view l.names in
    (meaning.subscript_values (args_view l.args) cx env l.fn.at (env l.name) 0 l.many
    ≡ (meaning.subscript_values (args_view (drop l.arg-index l.args)) cx env l.fn.at (env l.name) l.arg-index l.many >>= (λ xs. Gives (map item_view l.values.items ++ xs))))
    × (length l.values.items ≡ l.arg-index)
