use Rattle.std.proofs.Common.{Some, length, ap, sym, subst, ◌∙◌}
use Rattle.std.specs.Prelude.{All}
use Rattle.std.proofs.lemmas.List.Elements.{All-same}
use Rattle.num_type.specs.Types.{NumericType, IsInRange}
use Rattle.num_type.specs.View.{type_of}
use Rattle.fi_values.specs.Elements.{spread}
use Rattle.eval_value.specs.View.{shape_view}
use Rattle.eval_array.proofs.Complexes.{length_first, length_second, maths_apart, put_together, shapes_apart, types_apart}
use Rattle.eval_array.proofs.Elements.{All_spread}
use Rattle.eval_array.proofs.Joined.{same_types}
use Rattle.eval_array.proofs.queries.complex_of_reals.Goals as goal

pub complex_fi-requires-clause-real : goal.complex_fi-requires-clause-real
complex_fi-requires-clause-real c =
    c.in_ok-re-in-Some-governing.re.ok.0 ∙ ap length (c.in_ok-re-in-Some-governing.ensures ∙ (λ i. spread ((c.len.ensures ∙ c.args.b.now.re.ok.0) i) (c.as_slice.ensures.value i)))
    ∙ length_first (shape_view c.args.a.now.shape) (shape_view c.args.b.now.shape) (shape_view c.in-Some.shape) c.args.a.now.re.items c.args.b.now.re.items c.in-Some.ensures (sym c.args.a.now.re.ok.0 ∙ c.args.a.now.real) (sym c.args.b.now.re.ok.0 ∙ c.args.b.now.real)

pub complex_fi-requires-clause-imaginary : goal.complex_fi-requires-clause-imaginary
complex_fi-requires-clause-imaginary c =
    c.in_ok-im-in-Some-governing.im.ok.0 ∙ ap length (c.in_ok-im-in-Some-governing.ensures ∙ (λ i. spread ((c.len-in-Some-governing.ensures ∙ c.args.a.now.re.ok.0) i) (c.as_slice-in-Some-governing.ensures.value i)))
    ∙ length_second (shape_view c.args.a.now.shape) (shape_view c.args.b.now.shape) (shape_view c.in-Some.shape) c.args.a.now.re.items c.args.b.now.re.items c.in-Some.ensures (sym c.args.a.now.re.ok.0 ∙ c.args.a.now.real) (sym c.args.b.now.re.ok.0 ∙ c.args.b.now.real)

pub complex_fi-requires-clause-real_in_range : goal.complex_fi-requires-clause-real_in_range
complex_fi-requires-clause-real_in_range c =
    All-same (IsInRange (type_of c.args.a.now.num)) c.in_ok-re-in-Some-governing.re.items (spread (length c.args.b.now.re.items) c.args.a.now.re.items) (c.in_ok-re-in-Some-governing.ensures ∙ (λ i. spread ((c.len.ensures ∙ c.args.b.now.re.ok.0) i) (c.as_slice.ensures.value i)))
    (All_spread (IsInRange (type_of c.args.a.now.num)) (length c.args.b.now.re.items) c.args.a.now.re.items c.args.a.now.real_in_range)

pub complex_fi-requires-clause-imaginary_in_range : goal.complex_fi-requires-clause-imaginary_in_range
complex_fi-requires-clause-imaginary_in_range c =
    All-same (IsInRange (type_of c.args.a.now.num)) c.in_ok-im-in-Some-governing.im.items (spread (length c.args.a.now.re.items) c.args.b.now.re.items) (c.in_ok-im-in-Some-governing.ensures ∙ (λ i. spread ((c.len-in-Some-governing.ensures ∙ c.args.a.now.re.ok.0) i) (c.as_slice-in-Some-governing.ensures.value i)))
    (All_spread (IsInRange (type_of c.args.a.now.num)) (length c.args.a.now.re.items) c.args.b.now.re.items
    (subst (λ (t : NumericType). All (IsInRange t) c.args.b.now.re.items) (sym (same_types (type_of c.args.a.now.num) (type_of c.args.b.now.num) (sym c.is_same_type.ensures ∙ c.if-is_same_type.true))) c.args.b.now.real_in_range))

pub returns-in-None : goal.returns-in-None
returns-in-None c = shapes_apart (type_of c.args.a.now.num) (type_of c.args.b.now.num) c.args.a.now.math c.args.b.now.math (shape_view c.args.a.now.shape) (shape_view c.args.b.now.shape) c.args.a.now.re.items c.args.b.now.re.items (sym c.is_same_type.ensures ∙ c.if-is_same_type.true) c.in-None.ensures

pub returns-in-None-governing : goal.returns-in-None-governing
returns-in-None-governing c = maths_apart (type_of c.args.a.now.num) (type_of c.args.b.now.num) c.args.a.now.math c.args.b.now.math (shape_view c.args.a.now.shape) (shape_view c.args.b.now.shape) (shape_view c.in-Some.shape) c.args.a.now.re.items c.args.b.now.re.items (sym c.is_same_type.ensures ∙ c.if-is_same_type.true) c.in-Some.ensures c.in-None-governing.ensures

pub returns-in_ok-im-in-Some-governing : goal.returns-in_ok-im-in-Some-governing
returns-in_ok-im-in-Some-governing c =
    ap Some c.complex_fi.ensures
    ∙ put_together (type_of c.args.a.now.num) (type_of c.args.b.now.num) c.args.a.now.math c.args.b.now.math (shape_view c.args.a.now.shape) (shape_view c.args.b.now.shape) (shape_view c.in-Some.shape) c.in-Some-governing.g c.args.a.now.re.items c.args.b.now.re.items c.in_ok-re-in-Some-governing.re.items c.in_ok-im-in-Some-governing.im.items (sym c.is_same_type.ensures ∙ c.if-is_same_type.true) c.in-Some.ensures c.in-Some-governing.ensures (sym c.args.a.now.re.ok.0 ∙ c.args.a.now.real) (sym c.args.b.now.re.ok.0 ∙ c.args.b.now.real)
    (c.in_ok-re-in-Some-governing.ensures ∙ (λ i. spread ((c.len.ensures ∙ c.args.b.now.re.ok.0) i) (c.as_slice.ensures.value i)))
    (c.in_ok-im-in-Some-governing.ensures ∙ (λ i. spread ((c.len-in-Some-governing.ensures ∙ c.args.a.now.re.ok.0) i) (c.as_slice-in-Some-governing.ensures.value i)))

pub returns-else-is_same_type : goal.returns-else-is_same_type
returns-else-is_same_type c = types_apart (type_of c.args.a.now.num) (type_of c.args.b.now.num) c.args.a.now.math c.args.b.now.math (shape_view c.args.a.now.shape) (shape_view c.args.b.now.shape) c.args.a.now.re.items c.args.b.now.re.items (sym c.is_same_type.ensures ∙ c.if-is_same_type.false)
