use Rattle.std.proofs.Common.{◌∙◌, ap, Bool, List, map}
use Rattle.std.specs.Prelude.{Some}
use mathlib.Core.Bool.{beq}
use Rattle.fi_rules.specs.Value.{Logical}
use Rattle.fi_values.specs.Comparisons.{of_truths}
use Rattle.eval_value.specs.View.{shape_view}
use Rattle.eval_math.specs.View.{paired}
use Rattle.eval_math.proofs.Bound.{bound_none, bound_some}
use Rattle.eval_math.proofs.Pairing.{fused}
use Rattle.eval_math.proofs.logical_comparisons.logicals_equal.Goals as goal

pub returns-in-None : goal.returns-in-None
unfolding of_truths
returns-in-None c = bound_none _ _ c.in-None.ensures.value

pub returns-in_ok-truths-in-Some : goal.returns-in_ok-truths-in-Some
unfolding of_truths
returns-in_ok-truths-in-Some c =
    bound_some _ _ (shape_view c.in-Some.shape) (Some (Logical (shape_view c.in-Some.shape) c.in_ok-truths-in-Some.truths.items)) c.in-Some.ensures.value
    (ap (λ (ts : List Bool). Some (Logical (shape_view c.in-Some.shape) ts))
    (c.in_ok-truths-in-Some.ensures.value
    ∙ ap (map (λ (p : Bool × Bool). beq c.args.same (beq p.0 p.1))) (c.as_slice-in-Some-2.ensures.value ∙ c.in_ok-met-in-Some.ensures.value ∙ (λ i. paired (c.as_slice.ensures.value i) (c.as_slice-in-Some.ensures.value i)))
    ∙ fused (λ (b d : Bool). beq c.args.same (beq b d)) c.args.a.now.truths.items c.args.b.now.truths.items))
