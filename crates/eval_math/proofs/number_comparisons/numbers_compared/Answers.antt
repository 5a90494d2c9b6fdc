use Rattle.std.proofs.Common.{◌≡◌, ◌∙◌, ap, length, map, arith}
use Rattle.std.specs.Prelude.{None, ◌||◌, is_some}
use Rattle.num_type.specs.View.{exact_of}
use Rattle.fi_values.specs.Comparisons.{of_compared}
use Rattle.eval_value.specs.View.{shape_view}
use Rattle.eval_math.specs.Orders.{comparison_view, orders}
use Rattle.eval_math.proofs.Bound.{bound_none}
use Rattle.eval_math.proofs.Sorts.{compared_by, compared_number, complex_number_is, imaginary_exacts_are, numbers_are}
use Rattle.eval_math.proofs.number_comparisons.numbers_compared.Goals as goal

pub returns-in-None : goal.returns-in-None
returns-in-None c =
    let e : None ≡ of_compared (comparison_view c.args.k) (compared_number c.args.a.now) (compared_number c.args.b.now) = bound_none _ _ c.in-None.ensures.value in
    e ∙ numbers_are (comparison_view c.args.k) c.args.a.now c.args.b.now

pub returns-in_ok-r-in-Some : goal.returns-in_ok-r-in-Some
returns-in_ok-r-in-Some c =
    let a = compared_number c.args.a.now in
    let b = compared_number c.args.b.now in
    let l : length c.as_slice-in-Some-2.result.now ≡ length c.as_slice-in-Some-3.result.now =
    omega (arith, ap length c.as_slice-in-Some-2.ensures.value, ap length c.as_slice-in-Some-3.ensures.value, c.in_ok-re-in-Some.re.ok.0, c.in_ok-im-in-Some.im.ok.0, c.in_ok-re-in-Some.ensures.many, c.in_ok-im-in-Some.ensures.many, c.elements-count.ensures.value) in
    let e : c.either-complex.result ≡ (is_some a.im || is_some b.im) = c.either-complex.ensures ∙ (λ i. c.is_complex_number.ensures i || c.is_complex_number-in-Some.ensures i) ∙ (λ i. complex_number_is c.args.a.now i || complex_number_is c.args.b.now i) in
    c.in_ok-r-in-Some.ensures
    ∙ compared_by c.args.k a b (shape_view c.in-Some.shape) c.either-complex.result c.as_slice-in-Some-2.result.now c.as_slice-in-Some-3.result.now c.in-Some.ensures.value e
    (c.as_slice-in-Some-2.ensures.value ∙ c.in_ok-re-in-Some.ensures.value ∙ (λ i. orders (map exact_of (c.as_slice.ensures.value i)) (map exact_of (c.as_slice-in-Some.ensures.value i))))
    (c.as_slice-in-Some-3.ensures.value ∙ c.in_ok-im-in-Some.ensures.value ∙ (λ i. orders (imaginary_exacts_are c.args.a.now i) (imaginary_exacts_are c.args.b.now i)))
    l
    ∙ numbers_are (comparison_view c.args.k) c.args.a.now c.args.b.now
