use Rattle.std.proofs.Common.{◌≡◌, ◌∙◌, ◌+◌, ap, List, ℤ, [], ◌∷◌, ◌++◌, length, map, arith}
use Rattle.std.proofs.lemmas.List.{length_push}
use Rattle.std.proofs.lemmas.List.Elements.{All-nil, All-push, All-same}
use Rattle.num_type.specs.Types.{IsInRange}
use Rattle.num_type.specs.View.{exact_of, type_of}
use Rattle.num_type.specs.declared.dyadic.Dyadic.{Dyadic}
use Rattle.const_rules.specs.Stored.{stored_in}
use Rattle.fi_rules.specs.Options.{all_of}
use Rattle.eval_math.specs.View.{with_built}
use Rattle.eval_math.proofs.Bound.{begun, ended, next, stopped}
use Rattle.eval_math.proofs.stored.stored_all.Goals as goal

pub loop-c-init : goal.loop-c-init
loop-c-init c = record {
  value = ap (λ w. with_built w (all_of (map (λ (d : Dyadic). stored_in (type_of c.args.t) (exact_of d)) c.args.constants.now))) c.new-out.ensures.items ∙ begun (λ (d : Dyadic). stored_in (type_of c.args.t) (exact_of d)) c.args.constants.now;
  many = ap length c.new-out.ensures.items;
  inside = All-same (IsInRange (type_of c.args.t)) c.new-out.result.items [] c.new-out.ensures.items (All-nil (IsInRange (type_of c.args.t)));
}

pub loop-c-preserved : goal.loop-c-preserved
loop-c-preserved c =
    let e : length c.push.new.self.items ≡ length c.loop-c.out.items + 1 = ap length c.in_ok-push-in-Some.ensures.items ∙ length_push c.loop-c.out.items c.in-Some.z in
    record {
      value = next (λ (d : Dyadic). stored_in (type_of c.args.t) (exact_of d)) c.args.constants.now c.loop-c.c-index c.c-item.result c.loop-c.out.items c.push.new.self.items c.in-Some.z (all_of (map (λ (d : Dyadic). stored_in (type_of c.args.t) (exact_of d)) c.args.constants.now))
          c.loop-c-test.true c.c-item.is c.in-Some.ensures.value c.in_ok-push-in-Some.ensures.items c.loop-c.invariant.value;
      many = omega (arith, e, c.loop-c.invariant.many);
      inside = All-same (IsInRange (type_of c.args.t)) c.push.new.self.items (c.loop-c.out.items ++ c.in-Some.z ∷ []) c.in_ok-push-in-Some.ensures.items
          (All-push (IsInRange (type_of c.args.t)) c.loop-c.out.items c.in-Some.z c.loop-c.invariant.inside c.in-Some.ensures.inside);
    }

pub returns-in-None-clause-value : goal.returns-in-None-clause-value
returns-in-None-clause-value c =
    stopped (λ (d : Dyadic). stored_in (type_of c.args.t) (exact_of d)) c.args.constants.now c.loop-c.c-index c.c-item.result c.loop-c.out.items (all_of (map (λ (d : Dyadic). stored_in (type_of c.args.t) (exact_of d)) c.args.constants.now))
    c.loop-c-test.true c.c-item.is c.in-None.ensures.value c.loop-c.invariant.value

pub returns-clause-value : goal.returns-clause-value
returns-clause-value c =
    ended (λ (d : Dyadic). stored_in (type_of c.args.t) (exact_of d)) c.args.constants.now c.loop-c.c-index c.loop-c.out.items (all_of (map (λ (d : Dyadic). stored_in (type_of c.args.t) (exact_of d)) c.args.constants.now))
    c.loop-c-test.false c.loop-c.invariant.value
