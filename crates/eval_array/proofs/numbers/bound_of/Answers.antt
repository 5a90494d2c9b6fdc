use Rattle.std.proofs.Common.{◌≡◌, get_or, ap, sym, ◌∙◌, arith, rules}
use Rattle.std.proofs.lemmas.Grind.{common_steps}
use Rattle.fi_values.specs.Numbers.{bound_of}
use Rattle.eval_value.specs.View.{value_view}
use Rattle.eval_array.proofs.Picked.{bound_there}
use Rattle.eval_array.proofs.numbers.bound_of.Goals as goal

pub returns-then-elements-eq1-clause-value : goal.returns-then-elements-eq1-clause-value
returns-then-elements-eq1-clause-value c =
    let e : c.index.result.now ≡ get_or c.in-Number.v.re.items 0 c.index.result.now = first_of (search rules, grind (arith, common_steps)) in
    c.bounded.ensures
    ∙ bound_there c.in-Number.v c.index.result.now c.in-None.is (sym c.elements.ensures.value ∙ c.if-elements-eq1.true) e
    ∙ ap (λ w. bound_of (value_view w)) (sym c.in-Number.is)
