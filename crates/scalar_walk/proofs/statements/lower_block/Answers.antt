use Rattle.std.proofs.Common.{◌+◌, drop, refl, sym, ap, subst, ◌∙◌, Err}
use Rattle.std.proofs.lemmas.Result.{err_from_is_err_and}
use Rattle.mat_ast.specs.View.{stmt_view, block_view}
use Rattle.scalar_program.specs.Lowered.{IsBlockLowered}
use Rattle.scalar_walk.specs.Walk.{sta_walked, block_walked}
use Rattle.walk_scope.specs.View.{Tells, scope_view}
use Rattle.scalar_walk.specs.View.{names_view, emitted_view, behind_view, walked_view}
use Rattle.scalar_walk.proofs.Lows.{block_low}
use Rattle.walk_scope.proofs.Tell.{part_tells, passed}
use Rattle.walk_scope.proofs.Lefts.{left_at, left_none}
use Rattle.scalar_walk.proofs.statements.lower_block.Goals as goal

pub loop-s-preserved : goal.loop-s-preserved
loop-s-preserved c =
    let sc = scope_view c.args.scope.now in
    let k = c.loop-s.s-index in
    let next = drop (k + 1) c.args.body.now in
    let w = walked_view c.loop-s.names c.loop-s.out in
    let left = left_at c.args.body.now k c.s-item.result c.s-item.result c.loop-s-test.true c.s-item.is in (
      λ end more.
          c.loop-s.invariant.0 end (block_low k c.args.body.now c.s-item.result sc.context (names_view c.loop-s.names) (emitted_view c.loop-s.out)
          (behind_view c.lower_stmt.new.names c.lower_stmt.new.out) end left c.in_ok-lower_stmt.ensures.low more),
      c.loop-s.invariant.1 ∙ ap (λ l. block_walked (block_view l) sc w) left
          ∙ passed (sta_walked (stmt_view c.s-item.result) sc w) (walked_view c.lower_stmt.new.names c.lower_stmt.new.out) (block_walked (block_view next) sc) c.in_ok-lower_stmt.ensures.told,
      c.in_ok-lower_stmt.ensures.below,
    )

pub returns-clause-low : goal.returns-clause-low
returns-clause-low c =
    let sc = scope_view c.args.scope.now in
    let end = behind_view c.loop-s.names c.loop-s.out in
    c.loop-s.invariant.0 end (subst (λ l. IsBlockLowered (block_view l) sc.context (names_view c.loop-s.names) (emitted_view c.loop-s.out) end) (sym (left_none c.args.body.now c.loop-s.s-index c.loop-s-test.false)) refl)

pub loop-s-init : goal.loop-s-init
loop-s-init c = ((λ end h. h), refl, c.requires)

pub returns-in_err-lower_stmt-clause-told : goal.returns-in_err-lower_stmt-clause-told
returns-in_err-lower_stmt-clause-told c =
    let p = err_from_is_err_and c.from_residual.result c.from_residual.ensures.1 in
    let sc = scope_view c.args.scope.now in
    let k = c.loop-s.s-index in
    let next = drop (k + 1) c.args.body.now in
    let w = walked_view c.loop-s.names c.loop-s.out in
    let s = c.in_err-lower_stmt.field-0.0 in
    let whole = c.loop-s.invariant.1 ∙ ap (λ l. block_walked (block_view l) sc w) (left_at c.args.body.now k c.s-item.result c.s-item.result c.loop-s-test.true c.s-item.is) in
    rw (p.1, p.2) (subst (λ told. Tells {R = Unit {0}} (Err s) (λ u. walked_view c.lower_stmt.new.names c.lower_stmt.new.out) told) (sym whole)
    (part_tells s (λ u. walked_view c.lower_stmt.new.names c.lower_stmt.new.out) (λ u. walked_view c.lower_stmt.new.names c.lower_stmt.new.out)
    (sta_walked (stmt_view c.s-item.result) sc w) (block_walked (block_view next) sc) c.in_err-lower_stmt.ensures.told))
