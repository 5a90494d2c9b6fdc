use Rattle.std.proofs.Common.{◌≤◌, length, ◌∙◌, arith}
use Rattle.walk_scope.proofs.Lefts.{left_none}
use Rattle.eval_source.specs.View.{env_view}
use Rattle.eval_source.proofs.Targets.{all_named, none_named}
use Rattle.eval_source.proofs.assignments.set_each.Goals as goal

pub returns : goal.returns
returns c = λ at.
    let k = c.loop-k.k in
    let a : length c.args.targets.now ≤ k = omega (arith, c.loop-k-test.false, c.loop-k.auto.k-end, c.requires) in
    let b : length c.args.values.now ≤ k = omega (arith, a, c.requires) in
    all_named at _ (env_view c.loop-k.names) (c.loop-k.invariant ∙ none_named c.args.targets.now c.args.values.now k (env_view c.loop-k.names) (left_none c.args.targets.now k a) (left_none c.args.values.now k b))
