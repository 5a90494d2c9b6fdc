use Rattle.std.proofs.Common.{◌∙◌, ap}
use Rattle.fi_rules.specs.declared.missing.Missing as code_missing
use Rattle.fi_rules.specs.Checked.{Missing}
use Rattle.fi_rules.specs.View.{shown_view}
use Rattle.fi_rules.proofs.Taken.{math_some, math_none}
use Rattle.fi_rules.proofs.object_calls.math_made.Goals as goal

pub returns-in-Some : goal.returns-in-Some
returns-in-Some c = math_some c.args.args.now c.in-Some.m c.requires c.in-Some.ensures

pub returns-in-None : goal.returns-in-None
returns-in-None c =
    ap (λ (m : code_missing.Missing). Missing m.code (shown_view m.shown)) c.itself.ensures ∙ math_none c.args.args.now c.requires c.in-None.ensures
