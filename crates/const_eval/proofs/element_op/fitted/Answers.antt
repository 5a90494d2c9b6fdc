use Rattle.std.proofs.Common.{◌<◌, refl, sym, subst, ◌∙◌, arith}
use Rattle.std.specs.Prelude.{List}
use Rattle.shape_rules.specs.Shapes.{elements_of}
use Rattle.num_type.proofs.Constants.{not_true}
use Rattle.const_eval.specs.declared.complex.Complex as code_complex
use Rattle.const_eval.specs.Complex.{complex_of, AreSame}
use Rattle.const_eval.specs.Elementwise.{serving, applied}
use Rattle.const_eval.specs.Elementwise.IsUnoperated.{Inexact}
use Rattle.const_eval.specs.Listed.{listed}
use Rattle.const_eval.proofs.Operated.{only_because, steps_of, same_result, next_count, next_steps, next_numbers, operated}
use Rattle.const_eval.proofs.element_op.fitted.Goals as goal

pub returns-in-None-clause-refusal : goal.returns-in-None-clause-refusal
returns-in-None-clause-refusal c =
    only_because c.inexact.result
    (λ r h.
    Inexact c.args.shape c.requires c.loop-k.k
    (let l : c.loop-k.k < elements_of c.args.shape = omega (arith, c.loop-k-test.true, c.elements-count.ensures.value) in l)
    (λ s. not_true (c.in-None.ensures.steps.1 (steps_of c.args.op (serving c.args.a.now c.loop-k.k) (serving c.args.b.now c.loop-k.k) (complex_of c.serving.result) (complex_of c.serving-in-loop-k.result) (sym c.serving.ensures) (sym c.serving-in-loop-k.ensures) s)))
    h)
    c.inexact.ensures

pub loop-k-preserved : goal.loop-k-preserved
loop-k-preserved c = record {
  count = next_count c.loop-k.numbers.items c.push.new.self.items c.in-Some.number c.loop-k.k c.in_ok-push-in-Some.ensures.items c.loop-k.invariant.count;
  steps = next_steps c.args.op c.args.a.now c.args.b.now c.loop-k.k c.loop-k.invariant.steps (steps_of c.args.op (complex_of c.serving.result) (complex_of c.serving-in-loop-k.result) (serving c.args.a.now c.loop-k.k) (serving c.args.b.now c.loop-k.k) c.serving.ensures c.serving-in-loop-k.ensures (c.in-Some.ensures.steps.0 refl));
  numbers = next_numbers c.args.op c.args.a.now c.args.b.now c.loop-k.numbers.items c.push.new.self.items c.in-Some.number c.loop-k.k c.in_ok-push-in-Some.ensures.items c.loop-k.invariant.count c.loop-k.invariant.numbers (same_result c.args.op (complex_of c.in-Some.number) (complex_of c.serving.result) (complex_of c.serving-in-loop-k.result) (serving c.args.a.now c.loop-k.k) (serving c.args.b.now c.loop-k.k) c.serving.ensures c.serving-in-loop-k.ensures c.in-Some.ensures.same);
}

pub returns-clause-value : goal.returns-clause-value
returns-clause-value c =
    operated c.args.op c.args.a.now c.args.b.now c.in_ok-made.made c.args.shape c.as_slice.result.now c.loop-k.k c.requires
    (omega (arith, c.loop-k-test.false, c.loop-k.auto.k-end, c.elements-count.ensures.value))
    c.in_ok-made.ensures.shape
    (c.in_ok-made.ensures.complex ∙ c.is_one_complex.ensures)
    c.in_ok-made.ensures.real
    c.in_ok-made.ensures.imaginary
    c.loop-k.invariant.steps
    (λ k l. subst (λ (xs : List code_complex.Complex). AreSame (listed xs k) (applied c.args.op (serving c.args.a.now k) (serving c.args.b.now k))) (sym c.as_slice.ensures.value) (c.loop-k.invariant.numbers k l))
