use Rattle.std.proofs.Common.{◌≡◌, map, sym, subst, ◌∙◌}
use Rattle.std.proofs.lemmas.Result.{err_from_is_err_and}
use Rattle.fi_rules.specs.Checked.{Fine}
use Rattle.fi_rules.specs.Calls.{asked, built, built_type}
use Rattle.fi_rules.specs.View.{ty_view, asked_view, built_view}
use Rattle.scalar_program.specs.Lowered.{IsBuilt}
use Rattle.walk_scope.specs.Rules.{around_one}
use Rattle.walk_scope.specs.Told.{Passes}
use Rattle.scalar_walk.specs.View.{IsGranted, spot_view, low_view, typed_view}
use Rattle.scalar_walk.proofs.Conditions.{kept_rule, both_fine, first_stops, count_stops, limit_stops, rule_passes}
use Rattle.scalar_walk.proofs.Granted.{IsAskable, on_fine, asked_on, built_on}
use Rattle.scalar_walk.proofs.calls.call_built_in.Goals as goal

pub returns-in_err-asked-clause-told : goal.returns-in_err-asked-clause-told
returns-in_err-asked-clause-told c =
    let p = err_from_is_err_and c.from_residual.result c.from_residual.ensures.1 in
    let ts = map ty_view c.args.types.now in
    rw (p.1, p.2) (first_stops c.in_err-asked.field-0.0 c.ask.result asked_view (asked c.args.function ts) built (λ r. built_type r ts) c.args.out.now.nodes c.args.at (around_one c.args.name.now) (typed_view c.args.out.now.nodes)
    c.in_err-asked.ensures c.ask.ensures)

pub returns-in_err-count-clause-told : goal.returns-in_err-count-clause-told
returns-in_err-count-clause-told c =
    let p = err_from_is_err_and c.from_residual-in_err-count.result c.from_residual-in_err-count.ensures.1 in
    let ts = map ty_view c.args.types.now in
    rw (p.1, p.2) (count_stops c.in_err-count.field-0.0 c.ask.result asked_view c.in_ok-asked.asked (asked c.args.function ts) built (λ r. built_type r ts) c.args.out.now.nodes c.count.new.out.nodes c.args.at (around_one c.args.name.now)
    (typed_view c.count.new.out.nodes) c.in_ok-asked.ensures c.ask.ensures c.in_err-count.ensures.told)

pub returns-in_err-made-clause-told : goal.returns-in_err-made-clause-told
returns-in_err-made-clause-told c =
    let p = err_from_is_err_and c.from_residual-in_err-made.result c.from_residual-in_err-made.ensures.1 in
    let ts = map ty_view c.args.types.now in
    rw (p.1, p.2) (limit_stops c.in_err-made.field-0.0 c.ask.result asked_view c.in_ok-asked.asked c.build.result built_view (asked c.args.function ts) built (λ r. built_type r ts) c.args.out.now.nodes c.count.new.out.nodes c.args.at (around_one c.args.name.now)
    (typed_view c.count.new.out.nodes) c.in_ok-asked.ensures c.ask.ensures c.in_ok-count.ensures.told c.in_err-made.ensures c.build.ensures)

pub make-requires-clause-granted : goal.make-requires-clause-granted
make-requires-clause-granted c =
    let ts = map ty_view c.args.types.now in
    let k = asked_view c.in_ok-asked.asked in
    let asks = kept_rule c.in_ok-asked.asked c.ask.result asked_view (asked c.args.function ts) c.args.at (around_one c.args.name.now) c.in_ok-asked.ensures c.ask.ensures in
    let makes = kept_rule c.in_ok-made.made c.build.result built_view (built k) c.args.at (around_one c.args.name.now) c.in_ok-made.ensures c.build.ensures in
    on_fine (built k) (built_view c.in_ok-made.made) (λ m. IsGranted m ts) (built_on k ts (on_fine (asked c.args.function ts) k (IsAskable ts) (asked_on c.args.function ts) asks)) makes

pub returns-clause-told : goal.returns-clause-told
returns-clause-told c =
    let ts = map ty_view c.args.types.now in
    rule_passes c.ask.result asked_view c.in_ok-asked.asked c.build.result built_view c.in_ok-made.made (asked c.args.function ts) built (λ r. built_type r ts) c.args.out.now.nodes c.count.new.out.nodes c.args.at (around_one c.args.name.now)
    c.in_ok-asked.ensures c.ask.ensures c.in_ok-count.ensures.told c.in_ok-made.ensures c.build.ensures
    ∙ (λ i. Passes (sym c.in_ok-h.ensures.ty i, sym c.in_ok-h.ensures.nodes i))

pub returns-clause-low : goal.returns-clause-low
returns-clause-low c =
    let ts = map ty_view c.args.types.now in
    let ps = map spot_view c.args.spots.now in
    let k = asked_view c.in_ok-asked.asked in
    let r = built_view c.in_ok-made.made in
    let low = low_view c.in_ok-h.h c.make.new.out in
    let asks : asked c.args.function ts ≡ Fine k = kept_rule c.in_ok-asked.asked c.ask.result asked_view (asked c.args.function ts) c.args.at (around_one c.args.name.now) c.in_ok-asked.ensures c.ask.ensures in
    let makes : built k ≡ Fine r = kept_rule c.in_ok-made.made c.build.result built_view (built k) c.args.at (around_one c.args.name.now) c.in_ok-made.ensures c.build.ensures in
    record { made = r; checked = both_fine (asked c.args.function ts) built k r asks makes; is = subst (λ e. IsBuilt r ts ps e low) c.in_ok-count.ensures.same c.in_ok-h.ensures.low }
