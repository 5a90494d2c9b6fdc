use Rattle.std.proofs.Common.{ap, sym, ◌∙◌}
use Rattle.fi_rules.specs.Value.{Val}
use Rattle.fi_eval.specs.Operators.{Remove, turned}
use Rattle.fi_eval.specs.Outcome.{Gives}
use Rattle.eval_value.specs.View.{value_view}
use Rattle.eval_bits.proofs.Fis.{sign_removed, no_sign_removed}
use Rattle.eval_bits.proofs.signs.absolute.Goals as goal

pub returns-in-None : goal.returns-in-None
returns-in-None c = sym (no_sign_removed c.args.at (value_view c.args.value.now) c.in-None.ensures.other)

pub returns-in_ok-r-in-Some : goal.returns-in_ok-r-in-Some
returns-in_ok-r-in-Some c =
    ap (turned c.args.at Remove) c.in-Some.ensures.same ∙ sign_removed c.args.at c.in-Some.v.now c.in-Some.ensures.real ∙ ap (λ (w : Val). Gives w) (sym c.in_ok-r-in-Some.ensures)
