use Rattle.std.proofs.Common.{Some, length, map, ap, sym, ◌∙◌}
use Rattle.num_type.specs.View.{exact_of}
use Rattle.fi_values.specs.Brackets.{lists}
use Rattle.eval_value.specs.View.{shape_view}
use Rattle.eval_array.specs.Views.{join_view}
use Rattle.eval_array.proofs.Joined.{joint_of, length_lists}
use Rattle.eval_array.proofs.Rows.{complex_numbers_joined, numbers_unjoined, real_numbers_joined}
use Rattle.eval_array.proofs.brackets.joined_numbers.Goals as goal

pub joined_lists-requires-clause-fits : goal.joined_lists-requires-clause-fits
joined_lists-requires-clause-fits c = joint_of (join_view c.args.join) (shape_view c.args.a.now.shape) (shape_view c.args.b.now.shape) (shape_view c.in-Some.q) c.in-Some.ensures

pub joined_lists-requires-else-are_real-clause-fits : goal.joined_lists-requires-else-are_real-clause-fits
joined_lists-requires-else-are_real-clause-fits c = joint_of (join_view c.args.join) (shape_view c.args.a.now.shape) (shape_view c.args.b.now.shape) (shape_view c.in-Some.q) c.in-Some.ensures

pub real_number-requires : goal.real_number-requires
real_number-requires c =
    c.in_ok-re-in-Some.re.ok.0 ∙ ap length c.in_ok-re-in-Some.ensures
    ∙ length_lists (join_view c.args.join) (shape_view c.args.a.now.shape) (shape_view c.args.b.now.shape) (shape_view c.in-Some.q) c.as_slice.result.now c.as_slice-in-Some.result.now c.in-Some.ensures (ap length c.as_slice.ensures.value ∙ sym c.args.a.now.re.ok.0 ∙ c.args.a.now.real) (ap length c.as_slice-in-Some.ensures.value ∙ sym c.args.b.now.re.ok.0 ∙ c.args.b.now.real)

pub complex_number-requires-clause-real : goal.complex_number-requires-clause-real
complex_number-requires-clause-real c =
    c.in_ok-re-in-Some.re.ok.0 ∙ ap length c.in_ok-re-in-Some.ensures
    ∙ length_lists (join_view c.args.join) (shape_view c.args.a.now.shape) (shape_view c.args.b.now.shape) (shape_view c.in-Some.q) c.as_slice.result.now c.as_slice-in-Some.result.now c.in-Some.ensures (ap length c.as_slice.ensures.value ∙ sym c.args.a.now.re.ok.0 ∙ c.args.a.now.real) (ap length c.as_slice-in-Some.ensures.value ∙ sym c.args.b.now.re.ok.0 ∙ c.args.b.now.real)

pub complex_number-requires-clause-imaginary : goal.complex_number-requires-clause-imaginary
complex_number-requires-clause-imaginary c =
    c.in_ok-im-in-Some.im.ok.0 ∙ ap length c.in_ok-im-in-Some.ensures
    ∙ length_lists (join_view c.args.join) (shape_view c.args.a.now.shape) (shape_view c.args.b.now.shape) (shape_view c.in-Some.q) c.as_slice-else-are_real.result.now c.as_slice-else-are_real-2.result.now c.in-Some.ensures (ap length c.as_slice-else-are_real.ensures.value ∙ sym c.in_ok-xs-in-Some.xs.ok.0 ∙ c.in_ok-xs-in-Some.ensures.count) (ap length c.as_slice-else-are_real-2.ensures.value ∙ sym c.in_ok-ys-in-Some.ys.ok.0 ∙ c.in_ok-ys-in-Some.ensures.count)

pub returns-in-None : goal.returns-in-None
returns-in-None c = numbers_unjoined (join_view c.args.join) c.args.a.now c.args.b.now c.in-None.ensures

pub returns-then-are_real : goal.returns-then-are_real
returns-then-are_real c =
    ap Some c.real_number.ensures
    ∙ real_numbers_joined (join_view c.args.join) c.args.a.now c.args.b.now (shape_view c.in-Some.q) c.in_ok-re-in-Some.re.items (sym c.are_real.ensures ∙ c.if-are_real.true) c.in-Some.ensures
    (c.in_ok-re-in-Some.ensures ∙ (λ i. lists (join_view c.args.join) (shape_view c.args.a.now.shape) (shape_view c.args.b.now.shape) (c.as_slice.ensures.value i) (c.as_slice-in-Some.ensures.value i)))

pub returns-in_ok-im-in-Some : goal.returns-in_ok-im-in-Some
returns-in_ok-im-in-Some c =
    ap Some c.complex_number.ensures
    ∙ complex_numbers_joined (join_view c.args.join) c.args.a.now c.args.b.now (shape_view c.in-Some.q) c.in_ok-re-in-Some.re.items c.as_slice-else-are_real.result.now c.as_slice-else-are_real-2.result.now c.in_ok-im-in-Some.im.items (sym c.are_real.ensures ∙ c.if-are_real.false) c.in-Some.ensures
    (c.in_ok-re-in-Some.ensures ∙ (λ i. lists (join_view c.args.join) (shape_view c.args.a.now.shape) (shape_view c.args.b.now.shape) (c.as_slice.ensures.value i) (c.as_slice-in-Some.ensures.value i)))
    (ap (λ ds. map exact_of ds) c.as_slice-else-are_real.ensures.value ∙ c.in_ok-xs-in-Some.ensures.value)
    (ap (λ ds. map exact_of ds) c.as_slice-else-are_real-2.ensures.value ∙ c.in_ok-ys-in-Some.ensures.value)
    c.in_ok-im-in-Some.ensures
