use Rattle.std.proofs.Common.{None, Err, length, sym, ap, subst, ◌∙◌}
use Rattle.std.proofs.lemmas.Result.{err_from_is_err_and}
use Rattle.fi_rules.specs.View.{ty_view}
use Rattle.mat_ast.specs.View.{expr_view}
use Rattle.walk_scope.specs.Told.{Passes}
use Rattle.scalar_walk.specs.Walk.{Types, typed, assigned}
use Rattle.scalar_program.specs.NameMaps.{with_type}
use Rattle.scalar_walk.specs.View.{AreBelow, names_view, types_view, emitted_view, held_view, low_view, typed_view, walked_view}
use Rattle.walk_scope.specs.View.{scope_view}
use Rattle.scalar_walk.proofs.Lows.{assign_low, below_more, below_with}
use Rattle.walk_scope.proofs.Tell.{part_tells, next_tells, passed, err_tells}
use Rattle.scalar_walk.proofs.Walks.{tells_stop}
use Rattle.scalar_walk.proofs.Outputs.{types_set}
use Rattle.scalar_walk.proofs.statements.lower_assign.Goals as goal

pub returns-clause-low : goal.returns-clause-low
returns-clause-low c =
    assign_low (expr_view c.args.value.now) (scope_view c.args.scope.now).context (emitted_view c.args.out.now) c.args.name.now (low_view c.in_ok-held.held c.lower_expr.new.out)
    (names_view c.args.names.now) (names_view c.set.new.self) c.as_bytes.result.now c.in_ok-held.ensures.low c.in_ok-set.ensures c.as_bytes.ensures

pub returns-clause-below : goal.returns-clause-below
returns-clause-below c =
    let names = names_view c.args.names.now in
    let n = length c.lower_expr.new.out.words in
    subst (λ m. AreBelow m n) (sym c.in_ok-set.ensures)
    (below_with names c.as_bytes.result.now (held_view c.in_ok-held.held) n (below_more names (length c.args.out.now.words) n c.in_ok-held.ensures.grows c.requires) c.in_ok-held.ensures.below)

pub returns-in_err-held-clause-told : goal.returns-in_err-held-clause-told
returns-in_err-held-clause-told c =
    let p = err_from_is_err_and c.from_residual.result c.from_residual.ensures.1 in
    let types = types_view c.args.names.now in
    rw (p.1, p.2) (part_tells c.in_err-held.field-0.0 (typed_view c.lower_expr.new.out.nodes) (λ u. walked_view c.args.names.now c.lower_expr.new.out)
    (typed (expr_view c.args.value.now) (scope_view c.args.scope.now) types None c.args.out.now.nodes) (λ r. assigned c.args.name.now types r (types c.args.name.now.text)) c.in_err-held.ensures.told)

pub returns-in_err-assign_type-clause-told : goal.returns-in_err-assign_type-clause-told
returns-in_err-assign_type-clause-told c =
    let p = err_from_is_err_and c.from_residual-in_err-assign_type.result c.from_residual-in_err-assign_type.ensures.1 in
    let types : Types = types_view c.args.names.now in
    let x = typed_view c.lower_expr.new.out.nodes c.in_ok-held.held in
    let s = c.in_err-assign_type.field-0.0 in
    let told = assigned c.args.name.now types x (types c.args.name.now.text) in
    rw (p.1, p.2) (next_tells {S = Unit {0}} (Err s) (λ u. walked_view c.args.names.now c.lower_expr.new.out)
    (typed (expr_view c.args.value.now) (scope_view c.args.scope.now) types None c.args.out.now.nodes) x (λ r. assigned c.args.name.now types r (types c.args.name.now.text)) c.in_ok-held.ensures.told
    (err_tells s (λ u. walked_view c.args.names.now c.lower_expr.new.out) told (tells_stop s _ told (c.in_err-assign_type.ensures.told c.lower_expr.new.out.nodes))))

pub returns-clause-told : goal.returns-clause-told
returns-clause-told c =
    let types : Types = types_view c.args.names.now in
    let x = typed_view c.lower_expr.new.out.nodes c.in_ok-held.held in
    let set = types_set (names_view c.args.names.now) (names_view c.set.new.self) c.as_bytes.result.now (held_view c.in_ok-held.held) c.in_ok-set.ensures in
    passed (typed (expr_view c.args.value.now) (scope_view c.args.scope.now) types None c.args.out.now.nodes) x (λ r. assigned c.args.name.now types r (types c.args.name.now.text)) c.in_ok-held.ensures.told
    ∙ c.in_ok-assign_type.ensures.told c.lower_expr.new.out.nodes
    ∙ ap (λ ts. Passes (record { types = ts; nodes = c.lower_expr.new.out.nodes })) (ap (λ b. with_type types b (ty_view c.in_ok-held.held.ty)) (sym c.as_bytes.ensures) ∙ sym set)
