use Rattle.std.proofs.Common.{◌+◌, ◌<◌, ◌++◌, [], ◌∷◌, map, drop, Some, ap, ◌∙◌, arith, rules}
use Rattle.std.proofs.lemmas.List.Elements.{All-append, All-cons, All-nil, All-same}
use Rattle.num_type.specs.View.{exact_of}
use Rattle.fi_rules.specs.Options.{and_then}
use Rattle.eval_array.specs.Choices.{number_places}
use Rattle.eval_array.proofs.Bounds.{places_end, places_go, places_stop}
use Rattle.eval_array.proofs.Picked.{none_before}
use Rattle.eval_array.proofs.subscripts.number_places.Goals as goal

pub loop-c-init : goal.loop-c-init
loop-c-init c =
    record {
      value = none_before (number_places c.args.extent (map exact_of c.args.numbers.now)) c.new-out.result.items c.new-out.ensures.items;
      as_many = c.new-out.ensures.len;
      small = All-same (λ k. k < 4096) c.new-out.result.items [] c.new-out.ensures.items (All-nil (λ k. k < 4096));
    }

pub returns-in-None-clause-value : goal.returns-in-None-clause-value
returns-in-None-clause-value c =
    places_stop c.args.extent c.args.numbers.now c.loop-c.c-index c.c-item.result c.loop-c.out.items (number_places c.args.extent (map exact_of c.args.numbers.now)) c.loop-c-test.true c.c-item.is c.in-None.ensures.value c.loop-c.invariant.value

pub loop-c-preserved : goal.loop-c-preserved
loop-c-preserved c =
    let i = c.loop-c.c-index in
    let all = c.args.numbers.now in
    let k = c.in-Some.k in
    record {
      value =
          ap (λ us. and_then (number_places c.args.extent (map exact_of (drop (i + 1) all))) (λ ks. Some (us ++ ks))) c.in_ok-push-in-Some.ensures.items
          ∙ places_go c.args.extent all i c.c-item.result k c.loop-c.out.items (number_places c.args.extent (map exact_of all)) c.loop-c-test.true c.c-item.is c.in-Some.ensures.value c.loop-c.invariant.value;
      as_many = first_of (search rules, omega (arith, c.in_ok-push-in-Some.ensures.len, c.loop-c.invariant.as_many));
      small =
          All-same (λ n. n < 4096) c.push.new.self.items (c.loop-c.out.items ++ k ∷ []) c.in_ok-push-in-Some.ensures.items
          (All-append (λ n. n < 4096) c.loop-c.out.items (k ∷ []) c.loop-c.invariant.small (All-cons (λ n. n < 4096) k [] c.in-Some.ensures.below (All-nil (λ n. n < 4096))));
    }

pub returns-clause-value : goal.returns-clause-value
returns-clause-value c =
    places_end c.args.extent c.args.numbers.now c.loop-c.c-index c.loop-c.out.items (number_places c.args.extent (map exact_of c.args.numbers.now)) c.loop-c-test.false c.loop-c.invariant.value
