use Rattle.std.proofs.Common.{◌∙◌, ap}
use Rattle.std.specs.Prelude.{ℤ}
use Rattle.fic_base.specs.declared.code.Code.TheVariants as code
use Rattle.fi_rules.specs.Checked.{Missing, Whole}
use Rattle.fi_rules.specs.View.{stated_fraction}
use Rattle.fi_rules.proofs.Limited.{far_out}
use Rattle.fi_rules.proofs.granted.with_fraction.Goals as goal

pub returns-in-None : goal.returns-in-None
returns-in-None c =
    ap (λ (f : ℤ). Missing code.FractionOut (Whole f)) c.in-None.ensures.shown
    ∙ far_out c.args.signed c.args.word (stated_fraction c.args.fraction) c.requires.some c.requires.bits c.in-None.ensures.none
