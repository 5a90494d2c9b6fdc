use Rattle.std.proofs.Common.{◌≡◌, ◌∙◌, ◌+◌, ap, length, map, arith}
use Rattle.std.proofs.lemmas.List.{length_push, map_push}
use Rattle.num_type.specs.View.{exact_of}
use Rattle.num_type.specs.declared.dyadic.Dyadic.{Dyadic}
use Rattle.fi_rules.specs.Options.{all_of}
use Rattle.fi_rules.specs.Pairs.{folded}
use Rattle.eval_math.specs.View.{with_built}
use Rattle.eval_math.proofs.Bound.{begun, ended, next, stopped}
use Rattle.eval_math.proofs.numbers.real_folds.Goals as goal

pub loop-p-init : goal.loop-p-init
loop-p-init c = record {
  value = ap (λ w. with_built (map exact_of w) (all_of (map (λ (p : Dyadic × Dyadic). folded c.args.work (exact_of p.0) (exact_of p.1)) c.args.met.now))) c.new-out.ensures.items ∙ begun (λ (p : Dyadic × Dyadic). folded c.args.work (exact_of p.0) (exact_of p.1)) c.args.met.now;
  many = ap length c.new-out.ensures.items;
}

pub loop-p-preserved : goal.loop-p-preserved
loop-p-preserved c =
    let e : length c.push.new.self.items ≡ length c.loop-p.out.items + 1 = ap length c.in_ok-push-in-Some.ensures.items ∙ length_push c.loop-p.out.items c.in-Some.z in
    record {
      value = next (λ (p : Dyadic × Dyadic). folded c.args.work (exact_of p.0) (exact_of p.1)) c.args.met.now c.loop-p.p-index c.p-item.result (map exact_of c.loop-p.out.items) (map exact_of c.push.new.self.items) (exact_of c.in-Some.z) (all_of (map (λ (p : Dyadic × Dyadic). folded c.args.work (exact_of p.0) (exact_of p.1)) c.args.met.now))
          c.loop-p-test.true c.p-item.is c.in-Some.ensures (ap (map exact_of) c.in_ok-push-in-Some.ensures.items ∙ map_push exact_of c.loop-p.out.items c.in-Some.z) c.loop-p.invariant.value;
      many = omega (arith, e, c.loop-p.invariant.many);
    }

pub returns-in-None-clause-value : goal.returns-in-None-clause-value
returns-in-None-clause-value c =
    stopped (λ (p : Dyadic × Dyadic). folded c.args.work (exact_of p.0) (exact_of p.1)) c.args.met.now c.loop-p.p-index c.p-item.result (map exact_of c.loop-p.out.items) (all_of (map (λ (p : Dyadic × Dyadic). folded c.args.work (exact_of p.0) (exact_of p.1)) c.args.met.now))
    c.loop-p-test.true c.p-item.is c.in-None.ensures c.loop-p.invariant.value

pub returns-clause-value : goal.returns-clause-value
returns-clause-value c =
    ended (λ (p : Dyadic × Dyadic). folded c.args.work (exact_of p.0) (exact_of p.1)) c.args.met.now c.loop-p.p-index (map exact_of c.loop-p.out.items) (all_of (map (λ (p : Dyadic × Dyadic). folded c.args.work (exact_of p.0) (exact_of p.1)) c.args.met.now))
    c.loop-p-test.false c.loop-p.invariant.value
