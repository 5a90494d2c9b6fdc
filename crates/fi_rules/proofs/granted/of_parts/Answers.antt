use Rattle.std.proofs.Common.{◌∙◌, sym, ap, ℕ}
use Rattle.fi_math.specs.Made.{limited}
use Rattle.fi_rules.specs.Calls.{fixed}
use Rattle.fi_rules.specs.Pairs.{limits_checked}
use Rattle.fi_rules.specs.View.{stated_word, stated_fraction}
use Rattle.fi_rules.proofs.Limited.{made_wide}
use Rattle.fi_rules.proofs.granted.of_parts.Goals as goal

pub returns-in-Ok : goal.returns-in-Ok
returns-in-Ok c =
    c.with_fraction.ensures ∙ ap (λ (w : ℕ). limits_checked (limited 64 (fixed c.args.signed w (stated_fraction c.args.fraction)))) c.in-Ok.ensures.value

pub returns-in-Err : goal.returns-in-Err
returns-in-Err c =
    sym c.in-Err.ensures.shown ∙ made_wide c.args.signed (stated_word c.args.word) (stated_fraction c.args.fraction) c.in-Err.ensures.limits
