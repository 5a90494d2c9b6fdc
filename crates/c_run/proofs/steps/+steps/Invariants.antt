use Rattle.std.proofs.Common.{◌≡◌, ◌+◌, ◌-◌, ◌<◌, ◌≤◌, ◌^◌, drop}
use Rattle.c_tree.specs.View.{block_view, test_view}
use Rattle.c_tree.specs.Tokens.{block_tokens, test_tokens}
use Rattle.c_tree.specs.Meaning.{holds, run_block, while_turns, for_turns}
use Rattle.c_run.specs.Over.{block_over}
use Rattle.c_run.specs.Shape.{shape_of}
use Rattle.c_run.proofs.steps.+steps.Given as goal

abbrev pub invariant-block-loop-s : goal.invariant-block-loop-s
invariant-block-loop-s l = record {
  same : run_block (block_view l.body) l.bound l.initial.frame l.at ≡ run_block (block_view (drop l.s-index l.body)) l.bound l.frame l.first;
  counted : l.first + block_tokens (block_view (drop l.s-index l.body)) < 2 ^ 64;
  within : block_over (block_view (drop l.s-index l.body)) ≡ 0;
  shaped : shape_of l.frame ≡ shape_of l.initial.frame;
}

abbrev pub invariant-while_turns-loop-left : goal.invariant-while_turns-loop-left
invariant-while_turns-loop-left l = record {
  same : while_turns l.bound (λ st. holds (test_view l.test) st (l.at + 2)) (λ st. run_block (block_view l.body) l.bound st (l.at + 4 + test_tokens (test_view l.test))) l.initial.frame
      ≡ while_turns l.left (λ st. holds (test_view l.test) st (l.at + 2)) (λ st. run_block (block_view l.body) l.bound st (l.at + 4 + test_tokens (test_view l.test))) l.frame;
  shaped : shape_of l.frame ≡ shape_of l.initial.frame;
}

abbrev pub invariant-for_turns-loop-left : goal.invariant-for_turns-loop-left
invariant-for_turns-loop-left l = record {
  most : l.left ≤ l.count;
  same : for_turns l.count 0 l.counter (λ st. run_block (block_view l.body) l.bound st l.first) l.initial.frame
      ≡ for_turns l.left (l.count - l.left) l.counter (λ st. run_block (block_view l.body) l.bound st l.first) l.frame;
  shaped : shape_of l.frame ≡ shape_of l.initial.frame;
}

abbrev pub decreases-for_turns-loop-left : goal.decreases-for_turns-loop-left
decreases-for_turns-loop-left l = l.left

abbrev pub decreases-while_turns-loop-left : goal.decreases-while_turns-loop-left
decreases-while_turns-loop-left l = l.left
