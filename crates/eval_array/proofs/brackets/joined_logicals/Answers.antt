use Rattle.std.proofs.Common.{length, ap, sym, ◌∙◌}
use Rattle.eval_value.specs.View.{shape_view}
use Rattle.eval_array.specs.Views.{join_view}
use Rattle.eval_array.proofs.Joined.{joint_of, length_lists}
use Rattle.eval_array.proofs.brackets.joined_logicals.Goals as goal

pub joined_lists-requires-clause-fits : goal.joined_lists-requires-clause-fits
joined_lists-requires-clause-fits c = joint_of (join_view c.args.join) (shape_view c.args.a.now.shape) (shape_view c.args.b.now.shape) (shape_view c.in-Some.q) c.in-Some.ensures

pub logical-requires : goal.logical-requires
logical-requires c =
    c.in_ok-truths-in-Some.truths.ok.0 ∙ ap length c.in_ok-truths-in-Some.ensures
    ∙ length_lists (join_view c.args.join) (shape_view c.args.a.now.shape) (shape_view c.args.b.now.shape) (shape_view c.in-Some.q) c.as_slice.result.now c.as_slice-in-Some.result.now c.in-Some.ensures (ap length c.as_slice.ensures.value ∙ sym c.args.a.now.truths.ok.0 ∙ c.args.a.now.elements) (ap length c.as_slice-in-Some.ensures.value ∙ sym c.args.b.now.truths.ok.0 ∙ c.args.b.now.elements)
