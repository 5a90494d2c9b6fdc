use Rattle.std.proofs.Common.{Err, sym, ap, subst, ◌∙◌}
use Rattle.std.proofs.lemmas.Result.{err_from_is_err_and}
use Rattle.fi_rules.specs.Signs.{sign_checked}
use Rattle.fi_rules.specs.View.{ty_view, signed_view}
use Rattle.walk_scope.specs.Rules.{around_one}
use Rattle.walk_scope.specs.Told.{Passes}
use Rattle.walk_scope.specs.View.{Tells}
use Rattle.scalar_walk.specs.declared.operand.Held.{Held}
use Rattle.scalar_walk.specs.Walk.{sign_typed}
use Rattle.scalar_walk.specs.View.{typed_view}
use Rattle.scalar_walk.proofs.Conditions.{one_stops, one_counts, one_passes}
use Rattle.scalar_walk.proofs.turns.lower_sign.Goals as goal

pub returns-in_err-signed-clause-told : goal.returns-in_err-signed-clause-told
returns-in_err-signed-clause-told c =
    let p = err_from_is_err_and c.from_residual.result c.from_residual.ensures.1 in
    let x = ty_view c.args.x.now.ty in
    let s = c.in_err-signed.field-0.0 in
    let n = c.args.out.now.nodes in
    rw (p.1, p.2) (subst (λ t. Tells {R = Held} (Err s) (typed_view n) (sign_typed c.args.at (around_one t) c.args.op x n)) c.text_at-shown.ensures
    (one_stops s c.sign.result (signed_view x) (sign_checked c.args.op x) n c.args.at (around_one c.text_at-shown.result.now) (typed_view n) c.in_err-signed.ensures c.sign.ensures.value))

pub returns-in_err-count-clause-told : goal.returns-in_err-count-clause-told
returns-in_err-count-clause-told c =
    let p = err_from_is_err_and c.from_residual-in_err-count.result c.from_residual-in_err-count.ensures.1 in
    let x = ty_view c.args.x.now.ty in
    let s = c.in_err-count.field-0.0 in
    let n = c.args.out.now.nodes in
    let m = c.count.new.out.nodes in
    rw (p.1, p.2) (subst (λ t. Tells {R = Held} (Err s) (typed_view m) (sign_typed c.args.at (around_one t) c.args.op x n)) c.text_at-shown.ensures
    (one_counts s c.sign.result (signed_view x) c.in_ok-signed.signed (sign_checked c.args.op x) n m c.args.at (around_one c.text_at-shown.result.now) (typed_view m) c.in_ok-signed.ensures c.sign.ensures.value c.in_err-count.ensures.told))

pub returns-clause-told : goal.returns-clause-told
returns-clause-told c =
    let x = ty_view c.args.x.now.ty in
    let n = c.args.out.now.nodes in
    let m = c.count.new.out.nodes in
    ap (λ t. sign_typed c.args.at (around_one t) c.args.op x n) (sym c.text_at-shown.ensures)
    ∙ one_passes c.sign.result (signed_view x) c.in_ok-signed.signed (sign_checked c.args.op x) n m c.args.at (around_one c.text_at-shown.result.now) c.in_ok-signed.ensures c.sign.ensures.value c.in_ok-count.ensures.told
    ∙ (λ i. Passes (sym c.in_ok-h.ensures.ty i, sym c.in_ok-h.ensures.nodes i))
