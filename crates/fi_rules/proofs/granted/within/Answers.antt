use Rattle.std.proofs.Common.{◌∙◌, sym, ap}
use Rattle.fi_rules.specs.View.{stated_view}
use Rattle.fi_rules.specs.Pairs.{limits_checked}
use Rattle.fi_math.specs.Made.{limited}
use Rattle.fi_rules.proofs.Limited.{type_fine}
use Rattle.fi_rules.proofs.granted.within.Goals as goal

pub returns-in-Of : goal.returns-in-Of
returns-in-Of c = type_fine c.in-Of.t ∙ ap (λ s. limits_checked (limited 64 (stated_view s))) (sym c.in-Of.is)
