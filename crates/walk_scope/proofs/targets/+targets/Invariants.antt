use Rattle.std.proofs.Common.{◌≡◌, ◌++◌, drop}
use Rattle.mat_ast.specs.View.{block_view, arms_view}
use Rattle.fi_eval.specs.Meaning.{targets_of_block, targets_of_arms}
use Rattle.walk_scope.proofs.targets.+targets.Given as goal

abbrev pub invariant-put_targets-loop-s : goal.invariant-put_targets-loop-s
invariant-put_targets-loop-s l =
    l.initial.names.list.items ++ targets_of_block (block_view l.body) ≡ l.names.list.items ++ targets_of_block (block_view (drop l.s-index l.body))

abbrev pub invariant-put_arms-loop-arm : goal.invariant-put_arms-loop-arm
invariant-put_arms-loop-arm l =
    l.initial.names.list.items ++ targets_of_arms (arms_view l.arms) ≡ l.names.list.items ++ targets_of_arms (arms_view (drop l.arm-index l.arms))
