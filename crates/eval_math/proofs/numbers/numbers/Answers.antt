use Rattle.std.proofs.Common.{◌≡◌, ◌∙◌, sym, true, false}
use Rattle.std.specs.Prelude.{◌||◌}
use Rattle.eval_math.specs.Numbers.{is_complex_number}
use Rattle.eval_math.proofs.Reckoned.{complexes_are, reals_are}
use Rattle.eval_math.proofs.numbers.numbers.Goals as goal

pub returns-in_ok-r : goal.returns-in_ok-r
returns-in_ok-r c =
    let e : (is_complex_number c.args.x.now || is_complex_number c.args.y.now) ≡ true = (λ i. sym c.is_complex_number.ensures i || sym c.is_complex_number-2.ensures i) ∙ sym c.either.ensures ∙ c.if-either.true in
    c.in_ok-r.ensures ∙ complexes_are c.args.work c.args.x.now c.args.y.now e

pub returns-in_ok-r-2 : goal.returns-in_ok-r-2
returns-in_ok-r-2 c =
    let e : (is_complex_number c.args.x.now || is_complex_number c.args.y.now) ≡ false = (λ i. sym c.is_complex_number.ensures i || sym c.is_complex_number-2.ensures i) ∙ sym c.either.ensures ∙ c.if-either.false in
    c.in_ok-r-2.ensures ∙ reals_are c.args.work c.args.x.now c.args.y.now e
