use Rattle.std.proofs.Common.{◌≡◌, ◌∙◌, sym, ap, length, map, arith}
use Rattle.std.specs.Prelude.{Some}
use Rattle.num_type.specs.View.{type_of}
use Rattle.shape_rules.specs.Shapes.{elements_of}
use Rattle.fi_eval.specs.Operators.{pairwise}
use Rattle.fi_values.specs.Arithmetic.{both_parts, complex_element, imaginary}
use Rattle.eval_value.specs.View.{shape_view}
use Rattle.eval_math.specs.View.{IsMet, parts_view}
use Rattle.eval_math.proofs.ComplexElements.{imaginary_parts_are, moved, real_parts_are}
use Rattle.eval_math.proofs.complex_products.product_by.Goals as goal

pub returns : goal.returns
returns c =
    let f = c.args.frame.now in
    let a = c.args.a.now in
    let b = c.args.b.now in
    let n = elements_of f.shape in
    let la : elements_of a.shape ≡ length a.re.items = omega (arith, a.re.ok.0, a.real) in
    let lb : elements_of b.shape ≡ length b.re.items = omega (arith, b.re.ok.0, b.real) in
    let ll : length a.re.items ≡ length c.in_ok-left.left.items = omega (arith, la, c.in_ok-left.left.ok.0, c.in_ok-left.ensures.many) in
    let lr : length b.re.items ≡ length c.in_ok-right.right.items = omega (arith, lb, c.in_ok-right.right.ok.0, c.in_ok-right.ensures.many) in
    let met : IsMet n (length a.re.items) (length b.re.items) = moved n (elements_of a.shape) (elements_of b.shape) (length a.re.items) (length b.re.items) la lb c.requires.met in
    let el : c.as_slice.result.now ≡ c.in_ok-left.left.items = c.as_slice.ensures.value in
    let er : c.as_slice-2.result.now ≡ c.in_ok-right.right.items = c.as_slice-2.ensures.value in
    let fl : c.as_slice-3.result.now ≡ c.in_ok-left.left.items = c.as_slice-3.ensures.value in
    let fr : c.as_slice-4.result.now ≡ c.in_ok-right.right.items = c.as_slice-4.ensures.value in
    let re : c.in_ok-re.re.items ≡ map (λ z. z.0) (pairwise (complex_element f.by.math (type_of c.args.p) (type_of f.num) (type_of a.num) (type_of b.num)) (both_parts a.re.items (imaginary (parts_view a))) (both_parts b.re.items (imaginary (parts_view b)))) =
    c.in_ok-re.ensures.value
    ∙ real_parts_are f.by.math (type_of f.num) (type_of c.args.p) (type_of a.num) (type_of b.num) n a.re.items c.as_slice.result.now b.re.items c.as_slice-2.result.now (ll ∙ ap length (sym el)) (lr ∙ ap length (sym er)) met
    ∙ (λ i. map (λ z. z.0) (pairwise (complex_element f.by.math (type_of c.args.p) (type_of f.num) (type_of a.num) (type_of b.num)) (both_parts a.re.items ((el ∙ c.in_ok-left.ensures.value) i)) (both_parts b.re.items ((er ∙ c.in_ok-right.ensures.value) i)))) in
    let im : c.in_ok-im.im.items ≡ map (λ z. z.1) (pairwise (complex_element f.by.math (type_of c.args.p) (type_of f.num) (type_of a.num) (type_of b.num)) (both_parts a.re.items (imaginary (parts_view a))) (both_parts b.re.items (imaginary (parts_view b)))) =
    c.in_ok-im.ensures.value
    ∙ imaginary_parts_are f.by.math (type_of f.num) (type_of c.args.p) (type_of a.num) (type_of b.num) n a.re.items c.as_slice-3.result.now b.re.items c.as_slice-4.result.now (ll ∙ ap length (sym fl)) (lr ∙ ap length (sym fr)) met
    ∙ (λ i. map (λ z. z.1) (pairwise (complex_element f.by.math (type_of c.args.p) (type_of f.num) (type_of a.num) (type_of b.num)) (both_parts a.re.items ((fl ∙ c.in_ok-left.ensures.value) i)) (both_parts b.re.items ((fr ∙ c.in_ok-right.ensures.value) i)))) in
    λ i. record { num = type_of f.num; math = f.by.attached; shape = shape_view f.shape; parts = record { re = re i; im = Some (im i) } }
