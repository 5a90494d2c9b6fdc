use Rattle.std.proofs.Common.{ap, sym, ◌∙◌}
use Rattle.fi_meaning.specs.Calls as calls
use Rattle.eval_value.specs.View.{value_view}
use Rattle.eval_bits.proofs.Fis.{with_math}
use Rattle.eval_bits.proofs.Others.{no_fi_attached}
use Rattle.eval_bits.proofs.taking.attached.Goals as goal

pub returns-in_ok-r-in-Fi : goal.returns-in_ok-r-in-Fi
returns-in_ok-r-in-Fi c =
    sym (ap (λ w. calls.attached c.args.math (value_view w)) c.in-Fi.is ∙ ap (calls.attached c.args.math) (sym c.in_ok-r-in-Fi.ensures) ∙ with_math c.in_ok-r-in-Fi.r c.args.math)

pub returns-in_default : goal.returns-in_default
returns-in_default c = sym (no_fi_attached c.args.value.now c.args.math c.in_default.not-Fi)
