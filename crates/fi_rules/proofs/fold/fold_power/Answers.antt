use Rattle.std.proofs.Common.{◌≡◌, ◌∙◌, ap, to_z, of_z, arith}
use Rattle.std.specs.Int.{w32}
use Rattle.std.specs.Prelude.{ℤ}
use Rattle.std.proofs.lemmas.Int.{ints, clamps}
use Rattle.num_type.specs.View.{exact_of}
use Rattle.const_rules.specs.Folds.{power}
use Rattle.fi_rules.specs.Checked.{Missing}
use Rattle.fi_rules.specs.Pairs.{constant_checked}
use Rattle.fi_rules.specs.View.{checked_view, number_view, shown_view}
use Rattle.fi_rules.specs.declared.missing.Missing as code_missing
use Rattle.fi_rules.proofs.Meetings.{no_exponent, some_exponent}
use Rattle.fi_rules.proofs.fold.fold_power.Goals as goal

pub returns-in-None : goal.returns-in-None
returns-in-None c =
    ap (λ (m : code_missing.Missing). Missing m.code (shown_view m.shown)) c.itself.ensures ∙ no_exponent (exact_of c.args.x) (exact_of c.args.y) c.in-None.ensures.value

pub returns-in-Some : goal.returns-in-Some
returns-in-Some c =
    let e : to_z w32 (of_z w32 c.in-Some.exponent) ≡ c.in-Some.exponent = omega (arith, ints, clamps, c.in-Some.ensures.least, c.in-Some.ensures.most) in
    some_exponent (exact_of c.args.x) (exact_of c.args.y) c.in-Some.exponent (checked_view number_view c.checked.result) c.in-Some.ensures.value
    (c.checked.ensures ∙ ap constant_checked (c.raised.ensures ∙ ap (λ (n : ℤ). power (exact_of c.args.x) n) e))
