use Rattle.std.proofs.Common.{Some, length, ap, sym, subst, ◌∙◌}
use Rattle.std.specs.Prelude.{All}
use Rattle.std.proofs.lemmas.List.Elements.{All-same}
use Rattle.num_type.specs.Types.{NumericType, IsInRange}
use Rattle.num_type.specs.View.{type_of}
use Rattle.fi_values.specs.Brackets.{lists}
use Rattle.eval_value.specs.View.{shape_view}
use Rattle.eval_array.specs.Views.{join_view}
use Rattle.eval_array.proofs.Joined.{All_lists, joint_of, length_lists}
use Rattle.eval_array.proofs.Rows.{complex_fis_joined, complex_fis_unjoined, fi_joint_parts}
use Rattle.eval_array.proofs.brackets.joined_complex.Goals as goal

pub joined_lists-requires-clause-fits : goal.joined_lists-requires-clause-fits
joined_lists-requires-clause-fits c =
    let m = fi_joint_parts (join_view c.args.join) (type_of c.args.a.now.num) c.args.a.now.math (shape_view c.args.a.now.shape) (type_of c.args.b.now.num) c.args.b.now.math (shape_view c.args.b.now.shape) (shape_view c.in-Some.q) c.in-Some.ensures in
    joint_of (join_view c.args.join) (shape_view c.args.a.now.shape) (shape_view c.args.b.now.shape) (shape_view c.in-Some.q) m.1

pub joined_lists-requires-in-Some-clause-fits : goal.joined_lists-requires-in-Some-clause-fits
joined_lists-requires-in-Some-clause-fits c =
    let m = fi_joint_parts (join_view c.args.join) (type_of c.args.a.now.num) c.args.a.now.math (shape_view c.args.a.now.shape) (type_of c.args.b.now.num) c.args.b.now.math (shape_view c.args.b.now.shape) (shape_view c.in-Some.q) c.in-Some.ensures in
    joint_of (join_view c.args.join) (shape_view c.args.a.now.shape) (shape_view c.args.b.now.shape) (shape_view c.in-Some.q) m.1

pub complex_fi-requires-clause-real : goal.complex_fi-requires-clause-real
complex_fi-requires-clause-real c =
    let m = fi_joint_parts (join_view c.args.join) (type_of c.args.a.now.num) c.args.a.now.math (shape_view c.args.a.now.shape) (type_of c.args.b.now.num) c.args.b.now.math (shape_view c.args.b.now.shape) (shape_view c.in-Some.q) c.in-Some.ensures in
    c.in_ok-re-in-Some.re.ok.0 ∙ ap length c.in_ok-re-in-Some.ensures
    ∙ length_lists (join_view c.args.join) (shape_view c.args.a.now.shape) (shape_view c.args.b.now.shape) (shape_view c.in-Some.q) c.as_slice.result.now c.as_slice-in-Some.result.now m.1 (ap length c.as_slice.ensures.value ∙ sym c.args.a.now.re.ok.0 ∙ c.args.a.now.real) (ap length c.as_slice-in-Some.ensures.value ∙ sym c.args.b.now.re.ok.0 ∙ c.args.b.now.real)

pub complex_fi-requires-clause-imaginary : goal.complex_fi-requires-clause-imaginary
complex_fi-requires-clause-imaginary c =
    let m = fi_joint_parts (join_view c.args.join) (type_of c.args.a.now.num) c.args.a.now.math (shape_view c.args.a.now.shape) (type_of c.args.b.now.num) c.args.b.now.math (shape_view c.args.b.now.shape) (shape_view c.in-Some.q) c.in-Some.ensures in
    c.in_ok-im-in-Some.im.ok.0 ∙ ap length c.in_ok-im-in-Some.ensures
    ∙ length_lists (join_view c.args.join) (shape_view c.args.a.now.shape) (shape_view c.args.b.now.shape) (shape_view c.in-Some.q) c.args.xs.now c.args.ys.now m.1 (c.requires.left) (c.requires.right)

pub complex_fi-requires-clause-real_in_range : goal.complex_fi-requires-clause-real_in_range
complex_fi-requires-clause-real_in_range c =
    let m = fi_joint_parts (join_view c.args.join) (type_of c.args.a.now.num) c.args.a.now.math (shape_view c.args.a.now.shape) (type_of c.args.b.now.num) c.args.b.now.math (shape_view c.args.b.now.shape) (shape_view c.in-Some.q) c.in-Some.ensures in
    All-same (IsInRange (type_of c.args.a.now.num)) c.in_ok-re-in-Some.re.items (lists (join_view c.args.join) (shape_view c.args.a.now.shape) (shape_view c.args.b.now.shape) c.as_slice.result.now c.as_slice-in-Some.result.now) c.in_ok-re-in-Some.ensures
    (All_lists (IsInRange (type_of c.args.a.now.num)) (join_view c.args.join) (shape_view c.args.a.now.shape) (shape_view c.args.b.now.shape) c.as_slice.result.now c.as_slice-in-Some.result.now
    (All-same (IsInRange (type_of c.args.a.now.num)) c.as_slice.result.now c.args.a.now.re.items c.as_slice.ensures.value c.args.a.now.real_in_range)
    (All-same (IsInRange (type_of c.args.a.now.num)) c.as_slice-in-Some.result.now c.args.b.now.re.items c.as_slice-in-Some.ensures.value (subst (λ (t : NumericType). All (IsInRange t) c.args.b.now.re.items) (sym m.0) c.args.b.now.real_in_range)))

pub complex_fi-requires-clause-imaginary_in_range : goal.complex_fi-requires-clause-imaginary_in_range
complex_fi-requires-clause-imaginary_in_range c =
    let m = fi_joint_parts (join_view c.args.join) (type_of c.args.a.now.num) c.args.a.now.math (shape_view c.args.a.now.shape) (type_of c.args.b.now.num) c.args.b.now.math (shape_view c.args.b.now.shape) (shape_view c.in-Some.q) c.in-Some.ensures in
    All-same (IsInRange (type_of c.args.a.now.num)) c.in_ok-im-in-Some.im.items (lists (join_view c.args.join) (shape_view c.args.a.now.shape) (shape_view c.args.b.now.shape) c.args.xs.now c.args.ys.now) c.in_ok-im-in-Some.ensures
    (All_lists (IsInRange (type_of c.args.a.now.num)) (join_view c.args.join) (shape_view c.args.a.now.shape) (shape_view c.args.b.now.shape) c.args.xs.now c.args.ys.now
    (c.requires.left_in_range)
    (subst (λ (t : NumericType). All (IsInRange t) c.args.ys.now) (sym m.0) c.requires.right_in_range))

pub returns-in-None : goal.returns-in-None
returns-in-None c =
    complex_fis_unjoined (join_view c.args.join) (type_of c.args.a.now.num) c.args.a.now.math (shape_view c.args.a.now.shape) c.args.a.now.re.items c.args.xs.now (type_of c.args.b.now.num) c.args.b.now.math (shape_view c.args.b.now.shape) c.args.b.now.re.items c.args.ys.now c.in-None.ensures

pub returns-in_ok-im-in-Some : goal.returns-in_ok-im-in-Some
returns-in_ok-im-in-Some c =
    ap Some c.complex_fi.ensures
    ∙ complex_fis_joined (join_view c.args.join) (type_of c.args.a.now.num) c.args.a.now.math (shape_view c.args.a.now.shape) c.args.a.now.re.items c.args.xs.now (type_of c.args.b.now.num) c.args.b.now.math (shape_view c.args.b.now.shape) c.args.b.now.re.items c.args.ys.now (shape_view c.in-Some.q) c.in_ok-re-in-Some.re.items c.in_ok-im-in-Some.im.items c.in-Some.ensures
    (c.in_ok-re-in-Some.ensures ∙ (λ i. lists (join_view c.args.join) (shape_view c.args.a.now.shape) (shape_view c.args.b.now.shape) (c.as_slice.ensures.value i) (c.as_slice-in-Some.ensures.value i))) c.in_ok-im-in-Some.ensures
