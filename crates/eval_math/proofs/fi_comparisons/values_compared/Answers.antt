use Rattle.std.proofs.Common.{◌≡◌, ◌∙◌, ap, length, arith}
use Rattle.std.specs.Prelude.{◌||◌, is_some}
use Rattle.fi_values.specs.Comparisons.{compared}
use Rattle.eval_value.specs.View.{shape_view}
use Rattle.eval_math.specs.View.{operand_view}
use Rattle.eval_math.proofs.Bound.{bound_none}
use Rattle.eval_math.proofs.Sorts.{compared_by}
use Rattle.eval_math.proofs.Ordered.{complex_is, imaginary_are}
use Rattle.eval_math.proofs.fi_comparisons.values_compared.Goals as goal

pub returns-in-None : goal.returns-in-None
returns-in-None c = bound_none _ _ c.in-None.ensures.value

pub returns-in_ok-r-in-Some : goal.returns-in_ok-r-in-Some
returns-in_ok-r-in-Some c =
    let a = operand_view c.args.a.now in
    let b = operand_view c.args.b.now in
    let l : length c.as_slice.result.now ≡ length c.as_slice-in-Some.result.now =
    omega (arith, ap length c.as_slice.ensures.value, ap length c.as_slice-in-Some.ensures.value, c.in_ok-re-in-Some.re.ok.0, c.in_ok-im-in-Some.im.ok.0, c.in_ok-re-in-Some.ensures.many, c.in_ok-im-in-Some.ensures.many) in
    let e : c.either-complex.result ≡ (is_some (compared a).im || is_some (compared b).im) = c.either-complex.ensures ∙ (λ i. c.is_complex.ensures i || c.is_complex-in-Some.ensures i) ∙ (λ i. complex_is a i || complex_is b i) in
    c.in_ok-r-in-Some.ensures
    ∙ compared_by c.args.k (compared a) (compared b) (shape_view c.in-Some.shape) c.either-complex.result c.as_slice.result.now c.as_slice-in-Some.result.now c.in-Some.ensures.value e
    (c.as_slice.ensures.value ∙ c.in_ok-re-in-Some.ensures.value)
    (c.as_slice-in-Some.ensures.value ∙ c.in_ok-im-in-Some.ensures.value ∙ imaginary_are a b)
    l
