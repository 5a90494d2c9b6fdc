use Rattle.std.proofs.Common.{◌≡◌, ◌≤◌, false, length, drop, map}
use Rattle.scalar_program.specs.Lowered.{Passed, AreLowered}
use Rattle.mat_ast.specs.View.{args_view, rows_view, row_of, expr_view}
use Rattle.scalar_walk.specs.Walk.{args_typed, row_typed, rows_typed, has_colon}
use Rattle.walk_scope.specs.View.{scope_view}
use Rattle.scalar_walk.specs.View.{AreUnder, names_view, types_view, around_view, types_passed, passed_view}
use Rattle.scalar_walk.proofs.walk.+lower.Given as goal

abbrev pub invariant-lower_args-loop-arg : goal.invariant-lower_args-loop-arg
invariant-lower_args-loop-arg l =
    (args_typed (args_view l.args) (scope_view l.scope) (types_view l.names) (around_view l.around) (types_passed l.initial.passed l.initial.out.nodes)
    ≡ args_typed (args_view (drop l.arg-index l.args)) (scope_view l.scope) (types_view l.names) (around_view l.around) (types_passed l.passed l.out.nodes))
    × (has_colon (args_view l.args) ≡ false
    → (has_colon (args_view (drop l.arg-index l.args)) ≡ false)
    × ((end : Passed) → AreLowered (args_view (drop l.arg-index l.args)) (scope_view l.scope).context (names_view l.names) (passed_view l.passed l.out) end
    → AreLowered (args_view l.args) (scope_view l.scope).context (names_view l.names) (passed_view l.initial.passed l.initial.out) end))
    × (length l.initial.out.words ≤ length l.out.words)
    × AreUnder l.passed.spots.items (length l.out.words)

abbrev pub invariant-visit_row-loop-e : goal.invariant-visit_row-loop-e
invariant-visit_row-loop-e l =
    (row_typed (row_of (map expr_view l.e-items)) (scope_view l.scope) (types_view l.names) (around_view l.around) l.initial.out.nodes
    ≡ row_typed (row_of (map expr_view (drop l.e-index l.e-items))) (scope_view l.scope) (types_view l.names) (around_view l.around) l.out.nodes)
    × (length l.initial.out.words ≤ length l.out.words)

abbrev pub invariant-visit_rows-loop-row : goal.invariant-visit_rows-loop-row
invariant-visit_rows-loop-row l =
    (rows_typed (rows_view l.rows) (scope_view l.scope) (types_view l.names) (around_view l.around) l.initial.out.nodes
    ≡ rows_typed (rows_view (drop l.row-index l.rows)) (scope_view l.scope) (types_view l.names) (around_view l.around) l.out.nodes)
    × (length l.initial.out.words ≤ length l.out.words)
