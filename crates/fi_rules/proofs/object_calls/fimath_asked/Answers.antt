use Rattle.std.proofs.Common.{◌∙◌, ◌+◌, refl, ap, length, arith}
use Rattle.fi_rules.specs.declared.missing.Missing as code_missing
use Rattle.fi_rules.specs.Checked.{Missing}
use Rattle.fi_rules.specs.View.{shown_view}
use Rattle.fi_rules.proofs.Taken.{odd_counted}
use Rattle.fi_rules.proofs.object_calls.fimath_asked.Goals as goal

pub returns-else-have-eq0 : goal.returns-else-have-eq0
returns-else-have-eq0 c =
    ap (λ (m : code_missing.Missing). Missing m.code (shown_view m.shown)) c.counted.ensures
    ∙ odd_counted c.args.args.now (length c.args.args.now) (length c.args.args.now + 1) refl (omega arith) (λ h. omega (arith, h, c.if-have-eq0.false))
