use Rattle.std.proofs.Common.{◌≡◌, ◌∙◌, ◌+◌, ap, length, map, arith}
use Rattle.std.proofs.lemmas.List.{length_push, map_push}
use Rattle.const_eval.specs.Complex.{complex_of}
use Rattle.const_eval.specs.declared.complex.Complex as code_complex
use Rattle.fi_rules.specs.Options.{all_of}
use Rattle.fi_values.specs.Arithmetic.{complex_folded}
use Rattle.eval_math.specs.View.{with_built}
use Rattle.eval_math.proofs.Bound.{begun, ended, next, stopped}
use Rattle.eval_math.proofs.numbers.complex_folds.Goals as goal

pub loop-p-init : goal.loop-p-init
loop-p-init c = record {
  value = ap (λ w. with_built (map complex_of w) (all_of (map (λ (p : code_complex.Complex × code_complex.Complex). complex_folded c.args.work (complex_of p.0) (complex_of p.1)) c.args.met.now))) c.new-out.ensures.items ∙ begun (λ (p : code_complex.Complex × code_complex.Complex). complex_folded c.args.work (complex_of p.0) (complex_of p.1)) c.args.met.now;
  many = ap length c.new-out.ensures.items;
}

pub loop-p-preserved : goal.loop-p-preserved
loop-p-preserved c =
    let e : length c.push.new.self.items ≡ length c.loop-p.out.items + 1 = ap length c.in_ok-push-in-Some.ensures.items ∙ length_push c.loop-p.out.items c.in-Some.z in
    record {
      value = next (λ (p : code_complex.Complex × code_complex.Complex). complex_folded c.args.work (complex_of p.0) (complex_of p.1)) c.args.met.now c.loop-p.p-index c.p-item.result (map complex_of c.loop-p.out.items) (map complex_of c.push.new.self.items) (complex_of c.in-Some.z) (all_of (map (λ (p : code_complex.Complex × code_complex.Complex). complex_folded c.args.work (complex_of p.0) (complex_of p.1)) c.args.met.now))
          c.loop-p-test.true c.p-item.is c.in-Some.ensures (ap (map complex_of) c.in_ok-push-in-Some.ensures.items ∙ map_push complex_of c.loop-p.out.items c.in-Some.z) c.loop-p.invariant.value;
      many = omega (arith, e, c.loop-p.invariant.many);
    }

pub returns-in-None-clause-value : goal.returns-in-None-clause-value
returns-in-None-clause-value c =
    stopped (λ (p : code_complex.Complex × code_complex.Complex). complex_folded c.args.work (complex_of p.0) (complex_of p.1)) c.args.met.now c.loop-p.p-index c.p-item.result (map complex_of c.loop-p.out.items) (all_of (map (λ (p : code_complex.Complex × code_complex.Complex). complex_folded c.args.work (complex_of p.0) (complex_of p.1)) c.args.met.now))
    c.loop-p-test.true c.p-item.is c.in-None.ensures c.loop-p.invariant.value

pub returns-clause-value : goal.returns-clause-value
returns-clause-value c =
    ended (λ (p : code_complex.Complex × code_complex.Complex). complex_folded c.args.work (complex_of p.0) (complex_of p.1)) c.args.met.now c.loop-p.p-index (map complex_of c.loop-p.out.items) (all_of (map (λ (p : code_complex.Complex × code_complex.Complex). complex_folded c.args.work (complex_of p.0) (complex_of p.1)) c.args.met.now))
    c.loop-p-test.false c.loop-p.invariant.value
