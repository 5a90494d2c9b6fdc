use Rattle.std.proofs.Common.{◌≡◌, ◌+◌, [], length, map, drop, Some, Err, refl, sym, ap, subst, ◌∙◌, arith}
use Rattle.std.proofs.lemmas.Result.{err_from_is_err_and}
use Rattle.fic_base.specs.declared.code.Code.TheVariants as code
use Rattle.mat_ast.specs.View.{expr_view, args_view, row_of, row_view, rows_view}
use Rattle.mat_ast.specs.declared.tree.Expr.{out-Expr}
use Rattle.mat_ast.specs.declared.tree.ExprKind.TheVariants as kind
use Rattle.mat_ast.specs.Tree as ast
use Rattle.scalar_program.specs.Lowered.{IsLowered, AreLowered, nothing_passed}
use Rattle.fi_rules.specs.Types.{OtherTy}
use Rattle.fi_rules.specs.View.{ty_view}
use Rattle.std.specs.Prelude.{IfOk, pos, true}
use Rattle.walk_scope.specs.Told.{Passes, ◌>>=◌}
use Rattle.scalar_walk.specs.Walk.{typed, args_typed, row_typed, rows_typed, apply_typed, has_colon, sign_typed, inside, counted}
use Rattle.walk_scope.specs.Scope.{unbuilt}
use Rattle.walk_scope.specs.Rules.{around_one}
use Rattle.walk_scope.specs.View.{Tells, scope_view}
use Rattle.scalar_walk.specs.View.{names_view, emitted_view, low_view, types_view, around_view, typed_view, types_passed, passed_view, spot_view}
use Rattle.scalar_walk.proofs.Lows.{binary_low, sign_low, call_low}
use Rattle.walk_scope.proofs.Opened.{apply_view, binary_view, cells_view}
use Rattle.walk_scope.proofs.Lefts.{left_at, left_none}
use Rattle.walk_scope.proofs.Tell.{is_told, part_tells, next_tells, passed}
use Rattle.scalar_walk.proofs.Passed.{no_colon, args_low, item_low, colon_there, under_more, under_with, literal_under, types_more, passed_more, kept_low}
use Rattle.scalar_walk.proofs.Walks.{colon_told, item_stop, item_told, part_stops, stops_behind, tells_stop, args_step, args_stop, binary_first, binary_second, binary_last, range_first, range_last, range_step, range_by_last}
use Rattle.scalar_walk.proofs.walk.+lower.Goals as goal

pub lower_expr-returns-in_err-x-in-Binary-clause-told : goal.lower_expr-returns-in_err-x-in-Binary-clause-told
lower_expr-returns-in_err-x-in-Binary-clause-told t c =
    let p = err_from_is_err_and c.from_residual.result c.from_residual.ensures.1 in
    let at = (out-Expr c.args.e.now).place in
    let view : expr_view c.args.e.now ≡ ast.Binary at c.in-Binary.op (expr_view c.get-left.result.now) (expr_view c.in-Binary.b) = binary_view c.args.e.now c.in-Binary.op c.in-Binary.a c.in-Binary.b c.in-Binary.is ∙ ap (λ m. ast.Binary at c.in-Binary.op (expr_view m) (expr_view c.in-Binary.b)) (sym c.get-left.ensures) in
    rw (p.1, p.2) (binary_first c.in_err-x-in-Binary.field-0.0 (typed_view c.lower_expr.new.out.nodes) (typed_view c.lower_expr.new.out.nodes) (expr_view c.args.e.now) at c.in-Binary.op (expr_view c.get-left.result.now) (expr_view c.in-Binary.b)
    (scope_view c.args.scope.now) (types_view c.args.names.now) (around_view c.args.around) c.args.out.now.nodes view c.in_err-x-in-Binary.ensures.told)

pub lower_expr-returns-in_err-y-in-Binary-clause-told : goal.lower_expr-returns-in_err-y-in-Binary-clause-told
lower_expr-returns-in_err-y-in-Binary-clause-told t c =
    let p = err_from_is_err_and c.from_residual-in_err-y-in-Binary.result c.from_residual-in_err-y-in-Binary.ensures.1 in
    let at = (out-Expr c.args.e.now).place in
    let view : expr_view c.args.e.now ≡ ast.Binary at c.in-Binary.op (expr_view c.get-left.result.now) (expr_view c.get-right.result.now) =
    binary_view c.args.e.now c.in-Binary.op c.in-Binary.a c.in-Binary.b c.in-Binary.is ∙ (λ i. ast.Binary at c.in-Binary.op (expr_view (sym c.get-left.ensures i)) (expr_view (sym c.get-right.ensures i))) in
    rw (p.1, p.2) (binary_second c.in_err-y-in-Binary.field-0.0 (typed_view c.lower_expr-in-Binary.new.out.nodes) (typed_view c.lower_expr-in-Binary.new.out.nodes) (expr_view c.args.e.now) at c.in-Binary.op (expr_view c.get-left.result.now) (expr_view c.get-right.result.now)
    (scope_view c.args.scope.now) (types_view c.args.names.now) (around_view c.args.around) c.args.out.now.nodes (typed_view c.lower_expr.new.out.nodes c.in_ok-x-in-Binary.x) view c.in_ok-x-in-Binary.ensures.told c.in_err-y-in-Binary.ensures.told)

pub lower_expr-returns-in_ok-y-in-Binary-clause-told : goal.lower_expr-returns-in_ok-y-in-Binary-clause-told
lower_expr-returns-in_ok-y-in-Binary-clause-told t c =
    let at = (out-Expr c.args.e.now).place in
    let view : expr_view c.args.e.now ≡ ast.Binary at c.in-Binary.op (expr_view c.get-left.result.now) (expr_view c.get-right.result.now) =
    binary_view c.args.e.now c.in-Binary.op c.in-Binary.a c.in-Binary.b c.in-Binary.is ∙ (λ i. ast.Binary at c.in-Binary.op (expr_view (sym c.get-left.ensures i)) (expr_view (sym c.get-right.ensures i))) in
    binary_last c.lower_pair.result (typed_view c.lower_pair.new.out.nodes) (expr_view c.args.e.now) at c.in-Binary.op (expr_view c.get-left.result.now) (expr_view c.get-right.result.now)
    (scope_view c.args.scope.now) (types_view c.args.names.now) (around_view c.args.around) c.args.out.now.nodes (typed_view c.lower_expr.new.out.nodes c.in_ok-x-in-Binary.x)
    (typed_view c.lower_expr-in-Binary.new.out.nodes c.in_ok-y-in-Binary.y) view c.in_ok-x-in-Binary.ensures.told c.in_ok-y-in-Binary.ensures.told c.lower_pair.ensures.told

pub lower_expr-returns-in_ok-y-in-Binary-clause-low : goal.lower_expr-returns-in_ok-y-in-Binary-clause-low
lower_expr-returns-in_ok-y-in-Binary-clause-low t c =
    let at = (out-Expr c.args.e.now).place in
    let view : expr_view c.args.e.now ≡ ast.Binary at c.in-Binary.op (expr_view c.in-Binary.a) (expr_view c.in-Binary.b) = binary_view c.args.e.now c.in-Binary.op c.in-Binary.a c.in-Binary.b c.in-Binary.is in
    let names = names_view c.args.names.now in
    let cx = (scope_view c.args.scope.now).context in
    binary_low (expr_view c.args.e.now) cx at c.in-Binary.op (expr_view c.in-Binary.a) (expr_view c.in-Binary.b) names (emitted_view c.args.out.now)
    (low_view c.in_ok-x-in-Binary.x c.lower_expr.new.out) (low_view c.in_ok-y-in-Binary.y c.lower_expr-in-Binary.new.out)
    c.lower_pair.result c.lower_pair.new.out view
    (subst (λ m. IsLowered (expr_view m) cx names (emitted_view c.args.out.now) (low_view c.in_ok-x-in-Binary.x c.lower_expr.new.out)) c.get-left.ensures c.in_ok-x-in-Binary.ensures.low)
    (subst (λ m. IsLowered (expr_view m) cx names (emitted_view c.lower_expr.new.out) (low_view c.in_ok-y-in-Binary.y c.lower_expr-in-Binary.new.out)) c.get-right.ensures c.in_ok-y-in-Binary.ensures.low)
    c.lower_pair.ensures.low

pub lower_expr-returns-in_err-lower_expr-in-Range-clause-told : goal.lower_expr-returns-in_err-lower_expr-in-Range-clause-told
lower_expr-returns-in_err-lower_expr-in-Range-clause-told t c =
    let p = err_from_is_err_and c.from_residual-in_err-lower_expr-in-Range.result c.from_residual-in_err-lower_expr-in-Range.ensures.1 in
    let is = c.in-Range.is ∙ ap (λ m. kind.Range m c.in-Range.step c.in-Range.last) (sym c.get-in-Range.ensures) in
    rw (p.1, p.2) (range_first c.in_err-lower_expr-in-Range.field-0.0 (typed_view c.lower_expr-in-Range.new.out.nodes) (typed_view c.lower_expr-in-Range.new.out.nodes) c.args.e.now c.get-in-Range.result.now c.in-Range.step c.in-Range.last
    (scope_view c.args.scope.now) (types_view c.args.names.now) (around_view c.args.around) c.args.out.now.nodes is c.in_err-lower_expr-in-Range.ensures.told)

pub lower_expr-returns-in-None-clause-told : goal.lower_expr-returns-in-None-clause-told
lower_expr-returns-in-None-clause-told t c =
    let is = c.in-Range.is ∙ (λ i. kind.Range (sym c.get-in-Range.ensures i) c.in-Range.step (sym c.get-in-None.ensures i)) in
    range_last c.refuse_part-in-None.result (typed_view c.refuse_part-in-None.new.out.nodes) c.args.e.now c.get-in-Range.result.now c.in-Range.step c.get-in-None.result.now
    (scope_view c.args.scope.now) (types_view c.args.names.now) (around_view c.args.around) c.args.out.now.nodes (typed_view c.lower_expr-in-Range.new.out.nodes c.in_ok-lower_expr-in-Range.field-0)
    is c.in-None.is c.in_ok-lower_expr-in-Range.ensures.told c.refuse_part-in-None.ensures.told

pub lower_expr-returns-in_err-lower_expr-in-Some-clause-told : goal.lower_expr-returns-in_err-lower_expr-in-Some-clause-told
lower_expr-returns-in_err-lower_expr-in-Some-clause-told t c =
    let p = err_from_is_err_and c.from_residual-in_err-lower_expr-in-Some.result c.from_residual-in_err-lower_expr-in-Some.ensures.1 in
    let is = c.in-Range.is ∙ ap (λ m. kind.Range m c.in-Range.step c.in-Range.last) (sym c.get-in-Range.ensures) in
    let some = c.in-Some.is ∙ ap (λ m. Some m) (sym c.get-in-Some.ensures) in
    rw (p.1, p.2) (range_step c.in_err-lower_expr-in-Some.field-0.0 (typed_view c.lower_expr-in-Some.new.out.nodes) (typed_view c.lower_expr-in-Some.new.out.nodes) c.args.e.now c.get-in-Range.result.now c.in-Range.step c.get-in-Some.result.now c.in-Range.last
    (scope_view c.args.scope.now) (types_view c.args.names.now) (around_view c.args.around) c.args.out.now.nodes (typed_view c.lower_expr-in-Range.new.out.nodes c.in_ok-lower_expr-in-Range.field-0)
    is some c.in_ok-lower_expr-in-Range.ensures.told c.in_err-lower_expr-in-Some.ensures.told)

pub lower_expr-returns-in_ok-lower_expr-in-Some-clause-told : goal.lower_expr-returns-in_ok-lower_expr-in-Some-clause-told
lower_expr-returns-in_ok-lower_expr-in-Some-clause-told t c =
    let is = c.in-Range.is ∙ (λ i. kind.Range (sym c.get-in-Range.ensures i) c.in-Range.step (sym c.get-in-Some-2.ensures i)) in
    let some = c.in-Some.is ∙ ap (λ m. Some m) (sym c.get-in-Some.ensures) in
    range_by_last c.refuse_part-in-Some.result (typed_view c.refuse_part-in-Some.new.out.nodes) c.args.e.now c.get-in-Range.result.now c.in-Range.step c.get-in-Some.result.now c.get-in-Some-2.result.now
    (scope_view c.args.scope.now) (types_view c.args.names.now) (around_view c.args.around) c.args.out.now.nodes (typed_view c.lower_expr-in-Range.new.out.nodes c.in_ok-lower_expr-in-Range.field-0)
    (typed_view c.lower_expr-in-Some.new.out.nodes c.in_ok-lower_expr-in-Some.field-0)
    is some c.in_ok-lower_expr-in-Range.ensures.told c.in_ok-lower_expr-in-Some.ensures.told c.refuse_part-in-Some.ensures.told

pub lower_paren-returns-in_err-x-clause-told : goal.lower_paren-returns-in_err-x-clause-told
lower_paren-returns-in_err-x-clause-told t c =
    let p = err_from_is_err_and c.from_residual.result c.from_residual.ensures.1 in
    rw (p.1, p.2) (part_tells c.in_err-x.field-0.0 (typed_view c.lower_expr.new.out.nodes) (typed_view c.lower_expr.new.out.nodes)
    (typed (expr_view c.args.part.now) (scope_view c.args.scope.now) (types_view c.args.names.now) (around_view c.args.around) c.args.out.now.nodes)
    (λ r. counted c.args.at r.1 >>= (λ m. Passes (r.0, m))) c.in_err-x.ensures.told)

pub lower_paren-returns-in_err-count-clause-told : goal.lower_paren-returns-in_err-count-clause-told
lower_paren-returns-in_err-count-clause-told t c =
    let p = err_from_is_err_and c.from_residual-in_err-count.result c.from_residual-in_err-count.ensures.1 in
    let x = typed_view c.lower_expr.new.out.nodes c.in_ok-x.x in
    rw (p.1, p.2) (next_tells (Err c.in_err-count.field-0.0) (typed_view c.count.new.out.nodes)
    (typed (expr_view c.args.part.now) (scope_view c.args.scope.now) (types_view c.args.names.now) (around_view c.args.around) c.args.out.now.nodes) x
    (λ r. counted c.args.at r.1 >>= (λ m. Passes (r.0, m))) c.in_ok-x.ensures.told
    (part_tells c.in_err-count.field-0.0 (λ u. c.count.new.out.nodes) (typed_view c.count.new.out.nodes) (counted c.args.at x.1) (λ m. Passes (x.0, m)) c.in_err-count.ensures.told))

pub lower_paren-returns-clause-told : goal.lower_paren-returns-clause-told
lower_paren-returns-clause-told t c =
    let x = typed_view c.lower_expr.new.out.nodes c.in_ok-x.x in
    passed (typed (expr_view c.args.part.now) (scope_view c.args.scope.now) (types_view c.args.names.now) (around_view c.args.around) c.args.out.now.nodes) x
    (λ r. counted c.args.at r.1 >>= (λ m. Passes (r.0, m))) c.in_ok-x.ensures.told
    ∙ passed (counted c.args.at x.1) c.count.new.out.nodes (λ m. Passes (x.0, m)) c.in_ok-count.ensures.told

pub refuse_part-returns-in-Ok : goal.refuse_part-returns-in-Ok
refuse_part-returns-in-Ok t c =
    let sc = scope_view c.args.scope.now in
    record {
      told = stops_behind c.unbuilt.result (typed (expr_view c.args.part.now) sc (types_view c.args.names.now) (around_view c.args.around) c.args.out.now.nodes)
          (typed_view c.lower_expr.new.out.nodes c.in-Ok.field-0) (λ r. unbuilt sc c.args.at) c.in-Ok.ensures.told
          (is_told c.unbuilt.result code.Unsupported c.args.at (sc.shown c.args.at) (unbuilt sc c.args.at) c.unbuilt.ensures refl);
    }

pub refuse_part-returns : goal.refuse_part-returns
refuse_part-returns t c =
    let sc = scope_view c.args.scope.now in
    let told = typed (expr_view c.args.part.now) sc (types_view c.args.names.now) (around_view c.args.around) c.args.out.now.nodes in
    record { told = part_stops c.in-Err.stop told (λ r. unbuilt sc c.args.at) (tells_stop c.in-Err.stop (typed_view c.lower_expr.new.out.nodes) told c.in-Err.ensures.told) }

pub refuse_rows-returns-in-Ok : goal.refuse_rows-returns-in-Ok
refuse_rows-returns-in-Ok t c =
    let sc = scope_view c.args.scope.now in
    record {
      told = stops_behind c.unbuilt.result (rows_typed (rows_view c.args.rows.now) sc (types_view c.args.names.now) (around_view c.args.around) c.args.out.now.nodes)
          c.visit_rows.new.out.nodes (λ r. unbuilt sc c.args.at) c.in-Ok.ensures.told
          (is_told c.unbuilt.result code.Unsupported c.args.at (sc.shown c.args.at) (unbuilt sc c.args.at) c.unbuilt.ensures refl);
    }

pub refuse_rows-returns-in-Err : goal.refuse_rows-returns-in-Err
refuse_rows-returns-in-Err t c =
    let sc = scope_view c.args.scope.now in
    let told = rows_typed (rows_view c.args.rows.now) sc (types_view c.args.names.now) (around_view c.args.around) c.args.out.now.nodes in
    record { told = part_stops c.in-Err.stop told (λ r. unbuilt sc c.args.at) (tells_stop c.in-Err.stop (λ u. c.visit_rows.new.out.nodes) told c.in-Err.ensures.told) }

pub visit_row-loop-e-preserved : goal.visit_row-loop-e-preserved
visit_row-loop-e-preserved t c =
    let sc = scope_view c.args.scope.now in
    let types = types_view c.args.names.now in
    let around = around_view c.args.around in
    let k = c.loop-e.e-index in
    let es = c.as_slice-e-items.result.now in (
      c.loop-e.invariant.0
          ∙ ap (λ l. row_typed (row_of (map expr_view l)) sc types around c.loop-e.out.nodes) (left_at es k c.e-item.result c.e-item.result c.loop-e-test.true c.e-item.is)
          ∙ passed (typed (expr_view c.e-item.result) sc types around c.loop-e.out.nodes) (typed_view c.lower_expr.new.out.nodes c.in_ok-lower_expr.field-0)
          (λ r. row_typed (row_of (map expr_view (drop (k + 1) es))) sc types around r.1) c.in_ok-lower_expr.ensures.told,
      omega (arith, c.loop-e.invariant.1, c.in_ok-lower_expr.ensures.grows),
    )

pub visit_row-returns-clause-told : goal.visit_row-returns-clause-told
visit_row-returns-clause-told t c =
    let sc = scope_view c.args.scope.now in
    let types = types_view c.args.names.now in
    let around = around_view c.args.around in
    let k = c.loop-e.e-index in
    let es = c.as_slice-e-items.result.now in
    ap (λ r. row_typed r sc types around c.args.out.now.nodes) (cells_view c.args.row.now ∙ ap (λ l. row_of (map expr_view l)) (sym c.as_slice-e-items.ensures))
    ∙ c.loop-e.invariant.0
    ∙ ap (λ l. row_typed (row_of (map expr_view l)) sc types around c.loop-e.out.nodes) (left_none es k c.loop-e-test.false)

pub visit_row-returns-in_err-lower_expr-clause-told : goal.visit_row-returns-in_err-lower_expr-clause-told
visit_row-returns-in_err-lower_expr-clause-told t c =
    let p = err_from_is_err_and c.from_residual.result c.from_residual.ensures.1 in
    let sc = scope_view c.args.scope.now in
    let types = types_view c.args.names.now in
    let around = around_view c.args.around in
    let k = c.loop-e.e-index in
    let es = c.as_slice-e-items.result.now in
    let s = c.in_err-lower_expr.field-0.0 in
    let whole = ap (λ r. row_typed r sc types around c.args.out.now.nodes) (cells_view c.args.row.now ∙ ap (λ l. row_of (map expr_view l)) (sym c.as_slice-e-items.ensures))
    ∙ c.loop-e.invariant.0
    ∙ ap (λ l. row_typed (row_of (map expr_view l)) sc types around c.loop-e.out.nodes) (left_at es k c.e-item.result c.e-item.result c.loop-e-test.true c.e-item.is) in
    rw (p.1, p.2) (subst (λ told. Tells {R = Unit {0}} (Err s) (λ u. c.lower_expr.new.out.nodes) told) (sym whole)
    (part_tells s (typed_view c.lower_expr.new.out.nodes) (λ u. c.lower_expr.new.out.nodes) (typed (expr_view c.e-item.result) sc types around c.loop-e.out.nodes)
    (λ r. row_typed (row_of (map expr_view (drop (k + 1) es))) sc types around r.1) c.in_err-lower_expr.ensures.told))

pub visit_rows-loop-row-preserved : goal.visit_rows-loop-row-preserved
visit_rows-loop-row-preserved t c =
    let sc = scope_view c.args.scope.now in
    let types = types_view c.args.names.now in
    let around = around_view c.args.around in
    let k = c.loop-row.row-index in (
      c.loop-row.invariant.0
          ∙ ap (λ l. rows_typed (rows_view l) sc types around c.loop-row.out.nodes) (left_at c.args.rows.now k c.row-item.result c.row-item.result c.loop-row-test.true c.row-item.is)
          ∙ passed (row_typed (row_view c.row-item.result) sc types around c.loop-row.out.nodes) c.visit_row.new.out.nodes
          (λ m. rows_typed (rows_view (drop (k + 1) c.args.rows.now)) sc types around m) c.in_ok-visit_row.ensures.told,
      omega (arith, c.loop-row.invariant.1, c.in_ok-visit_row.ensures.grows),
    )

pub visit_rows-returns-in_err-visit_row-clause-told : goal.visit_rows-returns-in_err-visit_row-clause-told
visit_rows-returns-in_err-visit_row-clause-told t c =
    let p = err_from_is_err_and c.from_residual.result c.from_residual.ensures.1 in
    let sc = scope_view c.args.scope.now in
    let types = types_view c.args.names.now in
    let around = around_view c.args.around in
    let k = c.loop-row.row-index in
    let s = c.in_err-visit_row.field-0.0 in
    let whole = c.loop-row.invariant.0 ∙ ap (λ l. rows_typed (rows_view l) sc types around c.loop-row.out.nodes) (left_at c.args.rows.now k c.row-item.result c.row-item.result c.loop-row-test.true c.row-item.is) in
    rw (p.1, p.2) (subst (λ told. Tells {R = Unit {0}} (Err s) (λ u. c.visit_row.new.out.nodes) told) (sym whole)
    (part_tells s (λ u. c.visit_row.new.out.nodes) (λ u. c.visit_row.new.out.nodes) (row_typed (row_view c.row-item.result) sc types around c.loop-row.out.nodes)
    (λ m. rows_typed (rows_view (drop (k + 1) c.args.rows.now)) sc types around m) c.in_err-visit_row.ensures.told))

pub lower_unary-returns-in_err-x-clause-told : goal.lower_unary-returns-in_err-x-clause-told
lower_unary-returns-in_err-x-clause-told t c =
    let p = err_from_is_err_and c.from_residual.result c.from_residual.ensures.1 in
    let sc = scope_view c.args.scope.now in
    rw (p.1, p.2) (part_tells c.in_err-x.field-0.0 (typed_view c.lower_expr.new.out.nodes) (typed_view c.lower_expr.new.out.nodes)
    (typed (expr_view c.args.part.now) sc (types_view c.args.names.now) (around_view c.args.around) c.args.out.now.nodes) (λ r. sign_typed c.args.at (around_one (sc.shown c.args.at)) c.args.op r.0 r.1) c.in_err-x.ensures.told)

pub lower_unary-returns-clause-told : goal.lower_unary-returns-clause-told
lower_unary-returns-clause-told t c =
    let sc = scope_view c.args.scope.now in
    next_tells c.lower_sign.result (typed_view c.lower_sign.new.out.nodes) (typed (expr_view c.args.part.now) sc (types_view c.args.names.now) (around_view c.args.around) c.args.out.now.nodes)
    (typed_view c.lower_expr.new.out.nodes c.in_ok-x.x) (λ r. sign_typed c.args.at (around_one (sc.shown c.args.at)) c.args.op r.0 r.1) c.in_ok-x.ensures.told c.lower_sign.ensures.told

pub lower_unary-returns-clause-low : goal.lower_unary-returns-clause-low
lower_unary-returns-clause-low t c =
    sign_low c.args.op (scope_view c.args.scope.now).context c.args.at (expr_view c.args.part.now) (names_view c.args.names.now) (emitted_view c.args.out.now)
    (low_view c.in_ok-x.x c.lower_expr.new.out) c.lower_sign.result c.lower_sign.new.out c.in_ok-x.ensures.low c.lower_sign.ensures.low

pub lower_expr-returns-in-Apply-clause-low : goal.lower_expr-returns-in-Apply-clause-low
lower_expr-returns-in-Apply-clause-low t c =
    let at = (out-Expr c.args.e.now).place in
    let view : expr_view c.args.e.now ≡ ast.Apply at c.as_bytes-text.result.now c.in-Apply.paren (args_view c.as_slice.result.now) =
    apply_view c.args.e.now c.in-Apply.name c.in-Apply.paren c.in-Apply.args c.in-Apply.is ∙ (λ i. ast.Apply at (sym c.as_bytes-text.ensures i) c.in-Apply.paren (args_view (sym c.as_slice.ensures i))) in
    subst (λ x. IfOk c.lower_apply.result (λ o. IsLowered x (scope_view c.args.scope.now).context (names_view c.args.names.now) (emitted_view c.args.out.now) (low_view o c.lower_apply.new.out))) (sym view)
    (c.lower_apply.ensures.low c.in-Apply.paren)

pub lower_apply-returns-in_err-lower_args-clause-told : goal.lower_apply-returns-in_err-lower_args-clause-told
lower_apply-returns-in_err-lower_args-clause-told t c =
    let p = err_from_is_err_and c.from_residual.result c.from_residual.ensures.1 in
    let sc = scope_view c.args.scope.now in
    let types = types_view c.args.names.now in
    let n = c.args.out.now.nodes in
    let args = args_view c.args.args.now in
    let s = c.in_err-lower_args.field-0.0 in
    let view = λ (u : Unit {0}). types_passed c.lower_args.new.passed c.lower_args.new.out.nodes in
    let around = inside sc c.args.name.now (around_view c.args.around) in
    λ opens.
    rw (p.1, p.2) (part_tells s view (typed_view c.lower_args.new.out.nodes) (args_typed args sc types around ([], n)) (apply_typed sc types c.args.at c.args.name.now (has_colon args))
    (subst (λ o. Tells (Err s) view (args_typed args sc types o ([], n))) c.inside-inner.ensures
    (subst (λ l. Tells (Err s) view (args_typed args sc types (around_view c.inside-inner.result) (map ty_view l, n))) c.new-passed.ensures.types c.in_err-lower_args.ensures.told)))

pub lower_apply-returns-clause-told : goal.lower_apply-returns-clause-told
lower_apply-returns-clause-told t c =
    let sc = scope_view c.args.scope.now in
    let types = types_view c.args.names.now in
    let n = c.args.out.now.nodes in
    let args = args_view c.args.args.now in
    let around = inside sc c.args.name.now (around_view c.args.around) in
    let passed = types_passed c.lower_args.new.passed c.lower_args.new.out.nodes in
    let start = ap (λ o. args_typed args sc types o ([], n)) (sym c.inside-inner.ensures) ∙ ap (λ l. args_typed args sc types (around_view c.inside-inner.result) (map ty_view l, n)) (sym c.new-passed.ensures.types) in
    λ opens.
    next_tells c.apply.result (typed_view c.apply.new.out.nodes) (args_typed args sc types around ([], n)) passed (apply_typed sc types c.args.at c.args.name.now (has_colon args))
    (start ∙ c.in_ok-lower_args.ensures.told)
    (subst (λ b. Tells c.apply.result (typed_view c.apply.new.out.nodes) (apply_typed sc types c.args.at c.args.name.now b passed)) c.has_colon-colon.ensures c.apply.ensures.told)

pub lower_apply-returns-clause-low : goal.lower_apply-returns-clause-low
lower_apply-returns-clause-low t c =
    let sc = scope_view c.args.scope.now in
    let types = types_view c.args.names.now in
    let args = args_view c.args.args.now in
    let names = names_view c.args.names.now in
    let em = emitted_view c.args.out.now in
    let passed = passed_view c.lower_args.new.passed c.lower_args.new.out in
    let start : passed_view c.new-passed.result c.args.out.now ≡ nothing_passed em = λ i. record { types = ap (map ty_view) c.new-passed.ensures.types i; spots = ap (map spot_view) c.new-passed.ensures.spots i; emitted = em } in
    λ opens.
    call_low sc.context c.args.at c.args.name.now opens args names em passed c.apply.result c.apply.new.out
    (kept_low c.apply.result (typed_view c.apply.new.out.nodes) sc types c.args.at c.args.name.now c.has_colon-colon.result (types_passed c.lower_args.new.passed c.lower_args.new.out.nodes) (AreLowered args sc.context names (nothing_passed em) passed)
    c.apply.ensures.told (λ none. subst (λ p. AreLowered args sc.context names p passed) start (c.in_ok-lower_args.ensures.low (sym c.has_colon-colon.ensures ∙ none))))
    c.apply.ensures.low

pub lower_arg-returns-in_ok-push-in-All-clause-told : goal.lower_arg-returns-in_ok-push-in-All-clause-told
lower_arg-returns-in_ok-push-in-All-clause-told t c =
    colon_told c.args.arg.now (scope_view c.args.scope.now) (types_view c.args.names.now) (around_view c.args.around) (types_passed c.args.passed.now c.args.out.now.nodes) c.in-All.is
    ∙ types_more c.args.passed.now.types.items c.push.new.self.types.items c.other.result.ty OtherTy c.args.out.now.nodes c.in_ok-push-in-All.ensures.types (ap ty_view c.other.ensures.ty)

pub lower_arg-returns-in_ok-push-in-All-clause-low : goal.lower_arg-returns-in_ok-push-in-All-clause-low
lower_arg-returns-in_ok-push-in-All-clause-low t c = λ none. colon_there c.args.arg.now c.in-All.is none

pub lower_arg-returns-in_ok-push-in-All-clause-under : goal.lower_arg-returns-in_ok-push-in-All-clause-under
lower_arg-returns-in_ok-push-in-All-clause-under t c =
    let n = length c.args.out.now.words in
    under_with c.args.passed.now.spots.items c.push.new.self.spots.items c.other.result.spot n c.in_ok-push-in-All.ensures.spots c.requires.under (literal_under c.other.result.spot true (pos 0) n c.other.ensures.spot)

pub lower_arg-returns-in_err-h-in-Item-clause-told : goal.lower_arg-returns-in_err-h-in-Item-clause-told
lower_arg-returns-in_err-h-in-Item-clause-told t c =
    let p = err_from_is_err_and c.from_residual-in_err-h-in-Item.result c.from_residual-in_err-h-in-Item.ensures.1 in
    rw (p.1, p.2) (item_stop c.in_err-h-in-Item.field-0.0 (typed_view c.lower_expr.new.out.nodes) (λ u. types_passed c.args.passed.now c.lower_expr.new.out.nodes) c.args.arg.now c.in-Item.e
    (scope_view c.args.scope.now) (types_view c.args.names.now) (around_view c.args.around) (types_passed c.args.passed.now c.args.out.now.nodes) c.in-Item.is c.in_err-h-in-Item.ensures.told)

pub lower_arg-returns-in_ok-push-in-Item-clause-told : goal.lower_arg-returns-in_ok-push-in-Item-clause-told
lower_arg-returns-in_ok-push-in-Item-clause-told t c =
    let x = typed_view c.lower_expr.new.out.nodes c.in_ok-h-in-Item.h in
    item_told c.args.arg.now c.in-Item.e (scope_view c.args.scope.now) (types_view c.args.names.now) (around_view c.args.around) (types_passed c.args.passed.now c.args.out.now.nodes) x c.in-Item.is c.in_ok-h-in-Item.ensures.told
    ∙ types_more c.args.passed.now.types.items c.push-in-Item.new.self.types.items c.in_ok-h-in-Item.h.ty (ty_view c.in_ok-h-in-Item.h.ty) c.lower_expr.new.out.nodes c.in_ok-push-in-Item.ensures.types refl

pub lower_arg-returns-in_ok-push-in-Item-clause-low : goal.lower_arg-returns-in_ok-push-in-Item-clause-low
lower_arg-returns-in_ok-push-in-Item-clause-low t c =
    λ none.
    item_low c.args.arg.now c.in-Item.e (scope_view c.args.scope.now).context (names_view c.args.names.now) (passed_view c.args.passed.now c.args.out.now) (passed_view c.push-in-Item.new.self c.lower_expr.new.out)
    (low_view c.in_ok-h-in-Item.h c.lower_expr.new.out) c.in-Item.is c.in_ok-h-in-Item.ensures.low
    (passed_more c.args.passed.now c.push-in-Item.new.self c.in_ok-h-in-Item.h c.args.out.now c.lower_expr.new.out c.in_ok-push-in-Item.ensures.types c.in_ok-push-in-Item.ensures.spots)

pub lower_arg-returns-in_ok-push-in-Item-clause-under : goal.lower_arg-returns-in_ok-push-in-Item-clause-under
lower_arg-returns-in_ok-push-in-Item-clause-under t c =
    let n = length c.lower_expr.new.out.words in
    under_with c.args.passed.now.spots.items c.push-in-Item.new.self.spots.items c.in_ok-h-in-Item.h.spot n c.in_ok-push-in-Item.ensures.spots
    (under_more c.args.passed.now.spots.items (length c.args.out.now.words) n c.in_ok-h-in-Item.ensures.grows c.requires.under) c.in_ok-h-in-Item.ensures.below

pub lower_args-loop-arg-init : goal.lower_args-loop-arg-init
lower_args-loop-arg-init t c = (refl, (λ none. (none, λ end h. h)), omega arith, c.requires.under)

pub lower_args-loop-arg-preserved : goal.lower_args-loop-arg-preserved
lower_args-loop-arg-preserved t c =
    let sc = scope_view c.args.scope.now in
    let types = types_view c.args.names.now in
    let names = names_view c.args.names.now in
    let around = around_view c.args.around in
    let k = c.loop-arg.arg-index in
    let left = left_at c.args.args.now k c.arg-item.result c.arg-item.result c.loop-arg-test.true c.arg-item.is in
    let more = drop (k + 1) c.args.args.now in
    let p = types_passed c.loop-arg.passed c.loop-arg.out.nodes in
    let from = passed_view c.loop-arg.passed c.loop-arg.out in
    let mid = passed_view c.lower_arg.new.passed c.lower_arg.new.out in (
      c.loop-arg.invariant.0
          ∙ ap (λ l. args_typed (args_view l) sc types around p) left
          ∙ args_step c.arg-item.result more sc types around p (types_passed c.lower_arg.new.passed c.lower_arg.new.out.nodes) c.in_ok-lower_arg.ensures.told,
      (λ none.
          let before = c.loop-arg.invariant.1 none in
          let two = no_colon c.arg-item.result more (ap (λ l. has_colon (args_view l)) (sym left) ∙ before.0) in
          (two.1, λ end h. before.1 end (subst (λ l. AreLowered (args_view l) sc.context names from end) (sym left) (args_low c.arg-item.result more sc.context names from mid end (c.in_ok-lower_arg.ensures.low two.0) h)))),
      omega (arith, c.loop-arg.invariant.2, c.in_ok-lower_arg.ensures.grows),
      c.in_ok-lower_arg.ensures.under,
    )

pub lower_args-returns-in_err-lower_arg-clause-told : goal.lower_args-returns-in_err-lower_arg-clause-told
lower_args-returns-in_err-lower_arg-clause-told t c =
    let p = err_from_is_err_and c.from_residual.result c.from_residual.ensures.1 in
    let sc = scope_view c.args.scope.now in
    let types = types_view c.args.names.now in
    let around = around_view c.args.around in
    let k = c.loop-arg.arg-index in
    let s = c.in_err-lower_arg.field-0.0 in
    let from = types_passed c.loop-arg.passed c.loop-arg.out.nodes in
    let view = λ (u : Unit {0}). types_passed c.lower_arg.new.passed c.lower_arg.new.out.nodes in
    let whole = c.loop-arg.invariant.0 ∙ ap (λ l. args_typed (args_view l) sc types around from) (left_at c.args.args.now k c.arg-item.result c.arg-item.result c.loop-arg-test.true c.arg-item.is) in
    rw (p.1, p.2) (subst (λ told. Tells {R = Unit {0}} (Err s) view told) (sym whole)
    (args_stop s view view c.arg-item.result (drop (k + 1) c.args.args.now) sc types around from c.in_err-lower_arg.ensures.told))

pub lower_args-returns-clause-told : goal.lower_args-returns-clause-told
lower_args-returns-clause-told t c =
    c.loop-arg.invariant.0 ∙ ap (λ l. args_typed (args_view l) (scope_view c.args.scope.now) (types_view c.args.names.now) (around_view c.args.around) (types_passed c.loop-arg.passed c.loop-arg.out.nodes)) (left_none c.args.args.now c.loop-arg.arg-index c.loop-arg-test.false)

pub lower_args-returns-clause-low : goal.lower_args-returns-clause-low
lower_args-returns-clause-low t c =
    λ none.
    let end = passed_view c.loop-arg.passed c.loop-arg.out in
    (c.loop-arg.invariant.1 none).1 end (subst (λ l. AreLowered (args_view l) (scope_view c.args.scope.now).context (names_view c.args.names.now) end end) (sym (left_none c.args.args.now c.loop-arg.arg-index c.loop-arg-test.false)) refl)

pub lower_expr-returns-in-Apply-clause-told : goal.lower_expr-returns-in-Apply-clause-told
lower_expr-returns-in-Apply-clause-told t c =
    let at = (out-Expr c.args.e.now).place in
    let view : expr_view c.args.e.now ≡ ast.Apply at c.as_bytes-text.result.now c.in-Apply.paren (args_view c.as_slice.result.now) =
    apply_view c.args.e.now c.in-Apply.name c.in-Apply.paren c.in-Apply.args c.in-Apply.is ∙ (λ i. ast.Apply at (sym c.as_bytes-text.ensures i) c.in-Apply.paren (args_view (sym c.as_slice.ensures i))) in
    subst (λ x. Tells c.lower_apply.result (typed_view c.lower_apply.new.out.nodes) (typed x (scope_view c.args.scope.now) (types_view c.args.names.now) (around_view c.args.around) c.args.out.now.nodes)) (sym view)
    (c.lower_apply.ensures.told c.in-Apply.paren)
