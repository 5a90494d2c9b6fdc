use Rattle.std.proofs.Common.{◌<◌, ◌≤◌, length, map, drop, arith}
use Rattle.fi_meaning.specs.Meaning.{first_outputs}
use Rattle.eval_value.specs.View.{value_view}
use Rattle.walk_scope.proofs.Lefts.{left_at}
use Rattle.eval_source.proofs.Files.{first_begins, first_goes, first_done}
use Rattle.eval_source.proofs.functions.first_values.Goals as goal

pub loop-k-init : goal.loop-k-init
loop-k-init c = first_begins c.args.wanted c.args.values.now _ c.new-first.ensures.items

pub loop-k-preserved : goal.loop-k-preserved
loop-k-preserved c =
    let k = c.loop-k.k in
    let few : k < c.args.wanted = omega (arith, c.loop-k-test.true, c.loop-k.auto.k-end) in
    let inside : k < length c.args.values.now = omega (arith, few, c.requires) in
    let x = c.index-values-k.result in
    first_goes c.args.wanted k c.args.values.now c.loop-k.first.items c.push.new.self.items x c.in_ok-v.v (first_outputs c.args.wanted (map value_view c.args.values.now)) few
    (left_at c.args.values.now k x _ inside c.index-values-k.is) c.in_ok-v.ensures c.in_ok-push.ensures.items c.loop-k.invariant

pub returns : goal.returns
returns c = λ at.
    let k = c.loop-k.k in
    let all : c.args.wanted ≤ k = omega (arith, c.loop-k-test.false, c.loop-k.auto.k-end) in
    first_done at c.args.wanted k (map value_view (drop k c.args.values.now)) (map value_view c.loop-k.first.items) _ all c.loop-k.invariant
