use Rattle.std.proofs.Common.{map, refl}
use Rattle.fic_base.specs.declared.code.Code.TheVariants as code
use Rattle.fi_rules.specs.Calls.{asked}
use Rattle.fi_rules.specs.View.{ty_view, asked_view}
use Rattle.walk_scope.specs.Rules.{around_one}
use Rattle.walk_scope.proofs.Tell.{is_told}
use Rattle.scalar_walk.specs.Walk as walk
use Rattle.scalar_walk.proofs.Conditions.{kept_rule, colon_stops}
use Rattle.scalar_walk.proofs.Computed.{colon_kept}
use Rattle.scalar_walk.proofs.calls.colon_refused.Goals as goal

pub returns-in-Ok : goal.returns-in-Ok
returns-in-Ok c =
    let ts = map ty_view c.args.types.now in
    is_told c.refused.result code.BadArgument c.args.at c.args.name.now (walk.colon_refused c.args.at (around_one c.args.name.now) c.args.function ts) c.refused.ensures
    (colon_kept c.args.at c.args.name.now (asked c.args.function ts) (asked_view c.in-Ok.field-0)
    (kept_rule c.in-Ok.field-0 c.ask.result asked_view (asked c.args.function ts) c.args.at (around_one c.args.name.now) c.in-Ok.ensures c.ask.ensures)
    (walk.colon_refused c.args.at (around_one c.args.name.now) c.args.function ts) refl)

pub returns-in-Err : goal.returns-in-Err
returns-in-Err c =
    let ts = map ty_view c.args.types.now in
    colon_stops c.in-Err.stop c.ask.result c.args.at (around_one c.args.name.now) c.args.function ts c.in-Err.ensures c.ask.ensures
