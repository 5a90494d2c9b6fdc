use Rattle.std.proofs.Common.{◌≡◌, ◌∙◌, map}
use Rattle.num_type.specs.View.{exact_of}
use Rattle.eval_value.specs.View.{shape_view}
use Rattle.eval_math.specs.View.{paired}
use Rattle.eval_math.proofs.Reckoned.{reals_apart, reals_made, reals_stopped}
use Rattle.eval_math.proofs.numbers.reals.Goals as goal

pub returns-in-None : goal.returns-in-None
returns-in-None c = reals_apart c.args.work (shape_view c.args.x.now.shape) (shape_view c.args.y.now.shape) (map exact_of c.args.x.now.re.items) (map exact_of c.args.y.now.re.items) c.in-None.ensures.value

pub returns-in-Ok-None : goal.returns-in-Ok-None
returns-in-Ok-None c =
    let met : c.as_slice-in-Some-2.result.now ≡ paired c.args.x.now.re.items c.args.y.now.re.items = c.as_slice-in-Some-2.ensures.value ∙ c.in_ok-met-in-Some.ensures.value ∙ (λ i. paired (c.as_slice.ensures.value i) (c.as_slice-in-Some.ensures.value i)) in
    reals_stopped c.args.work (shape_view c.args.x.now.shape) (shape_view c.args.y.now.shape) (shape_view c.in-Some.shape) c.args.x.now.re.items c.args.y.now.re.items c.as_slice-in-Some-2.result.now c.in-Some.ensures.value met (rw c.in-Ok-None.field-0-is at c.in-Ok-None.ensures.value)

pub returns : goal.returns
returns c =
    let met : c.as_slice-in-Some-2.result.now ≡ paired c.args.x.now.re.items c.args.y.now.re.items = c.as_slice-in-Some-2.ensures.value ∙ c.in_ok-met-in-Some.ensures.value ∙ (λ i. paired (c.as_slice.ensures.value i) (c.as_slice-in-Some.ensures.value i)) in
    reals_made c.args.work (shape_view c.args.x.now.shape) (shape_view c.args.y.now.shape) (shape_view c.in-Some.shape) c.args.x.now.re.items c.args.y.now.re.items c.as_slice-in-Some-2.result.now (map exact_of c.in-Ok-Some.re.items) c.in-Some.ensures.value met (rw c.in-Ok-Some.field-0-is at c.in-Ok-Some.ensures.value)
