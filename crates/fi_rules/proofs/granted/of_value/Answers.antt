use Rattle.std.proofs.Common.{◌∙◌, sym, ap, ℕ}
use Rattle.std.specs.Prelude.{[], ◌∷◌}
use Rattle.num_type.specs.View.{exact_of}
use Rattle.const_rules.specs.BestFraction.{best_fraction_of}
use Rattle.fi_math.specs.Made.{limited}
use Rattle.fi_rules.specs.Pairs.{limits_checked}
use Rattle.fi_rules.specs.View.{best_fixed, stated_word}
use Rattle.fi_rules.proofs.Limited.{made_wide}
use Rattle.fi_rules.proofs.granted.of_value.Goals as goal

pub returns-in-Ok : goal.returns-in-Ok
returns-in-Ok c =
    c.with_best.ensures ∙ ap (λ (w : ℕ). limits_checked (limited 64 (best_fixed c.args.signed w (exact_of c.args.c)))) c.in-Ok.ensures.value

pub returns-in-Err : goal.returns-in-Err
returns-in-Err c =
    sym c.in-Err.ensures.shown ∙ made_wide c.args.signed (stated_word c.args.word) (best_fraction_of c.args.signed (stated_word c.args.word) (exact_of c.args.c ∷ [])) c.in-Err.ensures.limits
