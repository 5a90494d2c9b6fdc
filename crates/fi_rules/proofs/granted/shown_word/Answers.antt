use Rattle.std.proofs.Common.{◌∙◌, ap, ℕ}
use Rattle.std.specs.Prelude.{pos, Option, unwrap_or}
use Rattle.fi_rules.specs.Checked.{Whole}
use Rattle.fi_rules.proofs.granted.shown_word.Goals as goal

pub returns-in-Some : goal.returns-in-Some
returns-in-Some c = ap Whole (c.in-Some.ensures.same ∙ ap (λ (o : Option ℕ). pos (unwrap_or o 0)) c.in-Some.ensures.value)

pub returns-in-None : goal.returns-in-None
returns-in-None c = ap (λ (o : Option ℕ). Whole (pos (unwrap_or o 0))) c.in-None.ensures.value
