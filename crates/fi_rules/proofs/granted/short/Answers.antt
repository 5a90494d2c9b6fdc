use Rattle.std.proofs.Common.{sym, ap, ℕ, to_z, of_z, arith}
use Rattle.std.specs.Prelude.{nat_abs}
use Rattle.std.specs.Int.{w32}
use Rattle.std.proofs.lemmas.Int.{ints, clamps}
use Rattle.fic_base.specs.declared.code.Code.TheVariants as code
use Rattle.fi_rules.specs.Checked.{Missing}
use Rattle.fi_rules.specs.Pairs.{limits_checked}
use Rattle.fi_rules.proofs.Lengths.{short_word, long_word}
use Rattle.fi_rules.proofs.granted.short.Goals as goal

pub returns-in-Some-clause-value : goal.returns-in-Some-clause-value
returns-in-Some-clause-value c =
    let j : ℕ = nat_abs (to_z w32 (of_z w32 c.in-Some.bits)) in
    short_word c.args.word c.in-Some.bits j c.in-Some.ensures.value
    (omega (arith, ints, clamps, c.in-Some.ensures.least, c.in-Some.ensures.most))
    (omega (arith, ints, clamps, c.in-Some.ensures.least, c.in-Some.ensures.most))

pub returns-in-None-clause-shown : goal.returns-in-None-clause-shown
unfolding limits_checked
returns-in-None-clause-shown c = sym (ap (λ s. Missing code.TooWide s) c.shown_word.ensures)

pub returns-in-None-clause-limits : goal.returns-in-None-clause-limits
returns-in-None-clause-limits c = long_word c.args.word c.in-None.ensures.value
