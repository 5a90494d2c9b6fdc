use Rattle.std.proofs.Common.{map, ap, sym, ◌∙◌}
use Rattle.fi_eval.specs.Operators.{pairwise}
use Rattle.eval_value.specs.View.{shape_view}
use Rattle.eval_bits.specs.Joints.{beside, connected_pair}
use Rattle.eval_bits.proofs.Joined.{connected_elements, logicals_met, logicals_of_shapes}
use Rattle.eval_bits.proofs.logicals.logicals_connected.Goals as goal

pub returns-in-None : goal.returns-in-None
returns-in-None c = logicals_of_shapes c.args.op c.args.a.now c.args.b.now (sym c.in-None.ensures.value)

pub returns-in_ok-truths-in-Some : goal.returns-in_ok-truths-in-Some
returns-in_ok-truths-in-Some c =
    logicals_met c.args.op c.args.a.now c.args.b.now (shape_view c.in-Some.shape) c.in_ok-truths-in-Some.truths.items (sym c.in-Some.ensures.value)
    (connected_elements c.args.op c.args.a.now.truths.items c.args.b.now.truths.items c.in_ok-truths-in-Some.truths.items c.in_ok-pairs-in-Some.pairs.items
    (c.in_ok-pairs-in-Some.ensures.pairs ∙ (λ i. pairwise beside (c.as_slice.ensures.value i) (c.as_slice-in-Some.ensures.value i)))
    (c.in_ok-truths-in-Some.ensures.elements ∙ ap (map (connected_pair c.args.op)) c.as_slice-in-Some-2.ensures.value))
