use Rattle.std.proofs.Common.{◌≡◌, ◌∙◌, ap, Bool}
use Rattle.std.specs.Prelude.{◌&&◌, Some, is_some}
use Rattle.num_type.specs.View.{type_of}
use Rattle.fi_values.specs.Arithmetic.{result_made, result_parts}
use Rattle.fi_values.specs.Sums.{made}
use Rattle.eval_value.specs.View.{fi_view}
use Rattle.eval_math.specs.View.{framed, operand_view, parts_view, work_view}
use Rattle.eval_math.specs.declared.frame.Frame.{Frame}
use Rattle.eval_math.proofs.Bound.{bound_none, bound_some}
use Rattle.eval_math.proofs.Composed.{value_framed}
use Rattle.eval_math.proofs.elementwise.typed.Goals as goal

pub returns-in-None : goal.returns-in-None
returns-in-None c =
    let e : c.both.result ≡ (is_some (parts_view c.args.a.now).im && is_some (parts_view c.args.b.now).im) = c.both.ensures ∙ (λ i. c.is_complex-p.ensures i && c.is_complex-q.ensures i) in
    bound_none _ _ (c.in-None.ensures.value ∙ ap (λ (x : Bool). made (result_made (work_view c.args.op) x c.args.by.now.math (type_of c.args.a.now.num) (type_of c.args.b.now.num))) e)

pub returns-in_ok-v-in-Some : goal.returns-in_ok-v-in-Some
returns-in_ok-v-in-Some c =
    let e : c.both.result ≡ (is_some (parts_view c.args.a.now).im && is_some (parts_view c.args.b.now).im) = c.both.ensures ∙ (λ i. c.is_complex-p.ensures i && c.is_complex-q.ensures i) in
    let f : Frame = record { op = c.args.op; by = c.args.by.now; num = c.in-Some.num; shape = c.args.shape } in
    bound_some _ _ (type_of c.in-Some.num) (Some (fi_view c.in_ok-v-in-Some.v))
    (c.in-Some.ensures.value ∙ ap (λ (x : Bool). made (result_made (work_view c.args.op) x c.args.by.now.math (type_of c.args.a.now.num) (type_of c.args.b.now.num))) e)
    (value_framed f c.in_ok-v-in-Some.v
    (result_parts (work_view c.args.op) c.args.by.now.math (type_of c.in-Some.num) (operand_view c.args.a.now) (operand_view c.args.b.now) (is_some (parts_view c.args.a.now).im) (is_some (parts_view c.args.b.now).im))
    (c.in_ok-v-in-Some.ensures
    ∙ (λ i. framed f (result_parts (work_view c.args.op) c.args.by.now.math (type_of c.in-Some.num) (operand_view c.args.a.now) (operand_view c.args.b.now) (c.is_complex-p.ensures i) (c.is_complex-q.ensures i)))))
