use Rattle.std.proofs.Common.{◌≡◌, ◌∙◌, ap, sym, map}
use Rattle.std.specs.Prelude.{Some}
use Rattle.const_eval.specs.Complex.{complex_of}
use Rattle.const_eval.specs.declared.complex.Complex as code_complex
use Rattle.fi_rules.specs.Value.{Val}
use Rattle.fi_values.specs.Arithmetic.{complex_value}
use Rattle.eval_value.specs.View.{number_view, shape_view}
use Rattle.eval_math.specs.Numbers.{complex_numbers}
use Rattle.eval_math.specs.View.{paired}
use Rattle.eval_math.proofs.Reckoned.{complexes_apart, complexes_made, complexes_stopped}
use Rattle.eval_math.proofs.numbers.complexes.Goals as goal

pub returns-in-None : goal.returns-in-None
returns-in-None c = complexes_apart c.args.work (shape_view c.args.x.now.shape) (shape_view c.args.y.now.shape) (complex_numbers c.args.x.now) (complex_numbers c.args.y.now) c.in-None.ensures.value

pub returns-in-Ok-None : goal.returns-in-Ok-None
returns-in-Ok-None c =
    let met : map (λ (p : code_complex.Complex × code_complex.Complex). (complex_of p.0, complex_of p.1)) c.as_slice.result.now ≡ paired (complex_numbers c.args.x.now) (complex_numbers c.args.y.now) =
    ap (map (λ (p : code_complex.Complex × code_complex.Complex). (complex_of p.0, complex_of p.1))) c.as_slice.ensures.value ∙ c.in_ok-met-in-Some.ensures.value in
    complexes_stopped c.args.work (shape_view c.args.x.now.shape) (shape_view c.args.y.now.shape) (shape_view c.in-Some.shape) (complex_numbers c.args.x.now) (complex_numbers c.args.y.now) c.as_slice.result.now c.in-Some.ensures.value met (rw c.in-Ok-None.field-0-is at c.in-Ok-None.ensures.value)

pub returns : goal.returns
returns c =
    let met : map (λ (p : code_complex.Complex × code_complex.Complex). (complex_of p.0, complex_of p.1)) c.as_slice.result.now ≡ paired (complex_numbers c.args.x.now) (complex_numbers c.args.y.now) =
    ap (map (λ (p : code_complex.Complex × code_complex.Complex). (complex_of p.0, complex_of p.1))) c.as_slice.ensures.value ∙ c.in_ok-met-in-Some.ensures.value in
    ap (λ (v : Val). Some v) (c.in_ok-v-in-Ok-Some.ensures ∙ ap (λ w. complex_value (shape_view c.in-Some.shape) (map complex_of w)) c.as_slice-in-Ok-Some.ensures.value)
    ∙ complexes_made c.args.work (shape_view c.args.x.now.shape) (shape_view c.args.y.now.shape) (shape_view c.in-Some.shape) (complex_numbers c.args.x.now) (complex_numbers c.args.y.now) c.as_slice.result.now (map complex_of c.in-Ok-Some.zs.items) c.in-Some.ensures.value met (rw c.in-Ok-Some.field-0-is at c.in-Ok-Some.ensures.value)
