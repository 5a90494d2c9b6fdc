use Rattle.std.proofs.Common.{◌≡◌, sym, ap, subst, ◌∙◌}
use Rattle.std.proofs.lemmas.Result.{err_from_is_err_and}
use Rattle.mat_ast.specs.View.{expr_view}
use Rattle.fi_rules.specs.Checked.{Fine}
use Rattle.fi_rules.specs.Pairs.{met, worked, work_of, working_type}
use Rattle.fi_rules.specs.View.{ty_view, meeting_view, working_view}
use Rattle.scalar_program.specs.Lowered.{IsWorked}
use Rattle.walk_scope.specs.Rules.{around_pair}
use Rattle.walk_scope.specs.Told.{Passes}
use Rattle.walk_scope.specs.View.{scope_view}
use Rattle.scalar_walk.specs.View.{IsMade, spot_view, emitted_view, low_view, typed_view}
use Rattle.scalar_walk.proofs.Conditions.{kept_rule, both_fine, first_stops, count_stops, limit_stops, rule_passes}
use Rattle.scalar_walk.proofs.Granted.{IsMet, on_fine, met_on, worked_on}
use Rattle.scalar_walk.proofs.operations.lower_pair.Goals as goal

pub returns-in_err-met-clause-told : goal.returns-in_err-met-clause-told
returns-in_err-met-clause-told c =
    let p = err_from_is_err_and c.from_residual.result c.from_residual.ensures.1 in
    let x = ty_view c.args.x.now.ty in
    let y = ty_view c.args.y.now.ty in
    let w = work_of c.args.op in
    let around = around_pair ((scope_view c.args.scope.now).shown c.args.at) (expr_view c.args.a.now) (expr_view c.args.b.now) in
    rw (p.1, p.2) (first_stops c.in_err-met.field-0.0 c.meet.result meeting_view (met w x y) (worked w) working_type c.args.out.now.nodes c.args.at around (typed_view c.args.out.now.nodes)
    c.in_err-met.ensures (c.meet.ensures ∙ ap (λ v. met v x y) c.work_of-work.ensures))

pub returns-in_err-count-clause-told : goal.returns-in_err-count-clause-told
returns-in_err-count-clause-told c =
    let p = err_from_is_err_and c.from_residual-in_err-count.result c.from_residual-in_err-count.ensures.1 in
    let x = ty_view c.args.x.now.ty in
    let y = ty_view c.args.y.now.ty in
    let w = work_of c.args.op in
    let around = around_pair ((scope_view c.args.scope.now).shown c.args.at) (expr_view c.args.a.now) (expr_view c.args.b.now) in
    rw (p.1, p.2) (count_stops c.in_err-count.field-0.0 c.meet.result meeting_view c.in_ok-met.met (met w x y) (worked w) working_type c.args.out.now.nodes c.count.new.out.nodes c.args.at around (typed_view c.count.new.out.nodes)
    c.in_ok-met.ensures (c.meet.ensures ∙ ap (λ v. met v x y) c.work_of-work.ensures) c.in_err-count.ensures.told)

pub returns-in_err-working-clause-told : goal.returns-in_err-working-clause-told
returns-in_err-working-clause-told c =
    let p = err_from_is_err_and c.from_residual-in_err-working.result c.from_residual-in_err-working.ensures.1 in
    let x = ty_view c.args.x.now.ty in
    let y = ty_view c.args.y.now.ty in
    let w = work_of c.args.op in
    let k = meeting_view c.in_ok-met.met in
    let around = around_pair ((scope_view c.args.scope.now).shown c.args.at) (expr_view c.args.a.now) (expr_view c.args.b.now) in
    rw (p.1, p.2) (limit_stops c.in_err-working.field-0.0 c.meet.result meeting_view c.in_ok-met.met c.work_out.result working_view (met w x y) (worked w) working_type c.args.out.now.nodes c.count.new.out.nodes c.args.at around
    (typed_view c.count.new.out.nodes) c.in_ok-met.ensures (c.meet.ensures ∙ ap (λ v. met v x y) c.work_of-work.ensures) c.in_ok-count.ensures.told c.in_err-working.ensures (c.work_out.ensures ∙ ap (λ v. worked v k) c.work_of-work.ensures))

pub compute-requires-clause-made : goal.compute-requires-clause-made
compute-requires-clause-made c =
    let x = ty_view c.args.x.now.ty in
    let y = ty_view c.args.y.now.ty in
    let w = c.work_of-work.result in
    let k = meeting_view c.in_ok-met.met in
    let around = around_pair ((scope_view c.args.scope.now).shown c.args.at) (expr_view c.args.a.now) (expr_view c.args.b.now) in
    let meets = kept_rule c.in_ok-met.met c.meet.result meeting_view (met w x y) c.args.at around c.in_ok-met.ensures c.meet.ensures in
    let works = kept_rule c.in_ok-working.working c.work_out.result working_view (worked w k) c.args.at around c.in_ok-working.ensures c.work_out.ensures in
    on_fine (worked w k) (working_view c.in_ok-working.working) (IsMade w) (worked_on w k (on_fine (met w x y) k (IsMet w) (met_on w x y) meets)) works

pub returns-clause-told : goal.returns-clause-told
returns-clause-told c =
    let x = ty_view c.args.x.now.ty in
    let y = ty_view c.args.y.now.ty in
    let w = work_of c.args.op in
    let k = meeting_view c.in_ok-met.met in
    let around = around_pair ((scope_view c.args.scope.now).shown c.args.at) (expr_view c.args.a.now) (expr_view c.args.b.now) in
    rule_passes c.meet.result meeting_view c.in_ok-met.met c.work_out.result working_view c.in_ok-working.working (met w x y) (worked w) working_type c.args.out.now.nodes c.count.new.out.nodes c.args.at around
    c.in_ok-met.ensures (c.meet.ensures ∙ ap (λ v. met v x y) c.work_of-work.ensures) c.in_ok-count.ensures.told c.in_ok-working.ensures (c.work_out.ensures ∙ ap (λ v. worked v k) c.work_of-work.ensures)
    ∙ (λ i. Passes (sym c.in_ok-h.ensures.ty i, sym c.in_ok-h.ensures.nodes i))

pub returns-clause-low : goal.returns-clause-low
returns-clause-low c =
    let x = ty_view c.args.x.now.ty in
    let y = ty_view c.args.y.now.ty in
    let w = work_of c.args.op in
    let k = meeting_view c.in_ok-met.met in
    let r = working_view c.in_ok-working.working in
    let p = spot_view c.args.x.now.spot in
    let q = spot_view c.args.y.now.spot in
    let low = low_view c.in_ok-h.h c.compute.new.out in
    let around = around_pair ((scope_view c.args.scope.now).shown c.args.at) (expr_view c.args.a.now) (expr_view c.args.b.now) in
    let meets : met w x y ≡ Fine k = kept_rule c.in_ok-met.met c.meet.result meeting_view (met w x y) c.args.at around c.in_ok-met.ensures (c.meet.ensures ∙ ap (λ v. met v x y) c.work_of-work.ensures) in
    let works : worked w k ≡ Fine r = kept_rule c.in_ok-working.working c.work_out.result working_view (worked w k) c.args.at around c.in_ok-working.ensures (c.work_out.ensures ∙ ap (λ v. worked v k) c.work_of-work.ensures) in
    record {
      working = r;
      checked = both_fine (met w x y) (worked w) k r meets works;
      is = subst (λ v. IsWorked v r p q (emitted_view c.args.out.now) low) c.work_of-work.ensures
          (subst (λ e. IsWorked c.work_of-work.result r p q e low) c.in_ok-count.ensures.same c.in_ok-h.ensures.low);
    }
