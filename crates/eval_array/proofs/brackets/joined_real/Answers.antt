use Rattle.std.proofs.Common.{length, ap, sym, subst, ◌∙◌}
use Rattle.std.specs.Prelude.{All}
use Rattle.std.proofs.lemmas.List.Elements.{All-same}
use Rattle.num_type.specs.Types.{NumericType, IsInRange}
use Rattle.num_type.specs.View.{type_of}
use Rattle.fi_values.specs.Brackets.{lists}
use Rattle.eval_value.specs.View.{shape_view}
use Rattle.eval_array.specs.Views.{join_view}
use Rattle.eval_array.proofs.Joined.{All_lists, length_lists}
use Rattle.eval_array.proofs.Rows.{fi_joint_parts}
use Rattle.eval_array.proofs.brackets.joined_real.Goals as goal

pub real_fi-requires-clause-count : goal.real_fi-requires-clause-count
real_fi-requires-clause-count c =
    let m = fi_joint_parts (join_view c.args.join) (type_of c.args.a.now.num) c.args.a.now.math (shape_view c.args.a.now.shape) (type_of c.args.b.now.num) c.args.b.now.math (shape_view c.args.b.now.shape) (shape_view c.in-Some.q) c.in-Some.ensures in
    c.in_ok-re-in-Some.re.ok.0 ∙ ap length c.in_ok-re-in-Some.ensures
    ∙ length_lists (join_view c.args.join) (shape_view c.args.a.now.shape) (shape_view c.args.b.now.shape) (shape_view c.in-Some.q) c.as_slice.result.now c.as_slice-in-Some.result.now m.1 (ap length c.as_slice.ensures.value ∙ sym c.args.a.now.re.ok.0 ∙ c.args.a.now.real) (ap length c.as_slice-in-Some.ensures.value ∙ sym c.args.b.now.re.ok.0 ∙ c.args.b.now.real)

pub real_fi-requires-clause-in_range : goal.real_fi-requires-clause-in_range
real_fi-requires-clause-in_range c =
    let m = fi_joint_parts (join_view c.args.join) (type_of c.args.a.now.num) c.args.a.now.math (shape_view c.args.a.now.shape) (type_of c.args.b.now.num) c.args.b.now.math (shape_view c.args.b.now.shape) (shape_view c.in-Some.q) c.in-Some.ensures in
    All-same (IsInRange (type_of c.args.a.now.num)) c.in_ok-re-in-Some.re.items (lists (join_view c.args.join) (shape_view c.args.a.now.shape) (shape_view c.args.b.now.shape) c.as_slice.result.now c.as_slice-in-Some.result.now) c.in_ok-re-in-Some.ensures
    (All_lists (IsInRange (type_of c.args.a.now.num)) (join_view c.args.join) (shape_view c.args.a.now.shape) (shape_view c.args.b.now.shape) c.as_slice.result.now c.as_slice-in-Some.result.now
    (All-same (IsInRange (type_of c.args.a.now.num)) c.as_slice.result.now c.args.a.now.re.items c.as_slice.ensures.value c.args.a.now.real_in_range)
    (All-same (IsInRange (type_of c.args.a.now.num)) c.as_slice-in-Some.result.now c.args.b.now.re.items c.as_slice-in-Some.ensures.value (subst (λ (t : NumericType). All (IsInRange t) c.args.b.now.re.items) (sym m.0) c.args.b.now.real_in_range)))
