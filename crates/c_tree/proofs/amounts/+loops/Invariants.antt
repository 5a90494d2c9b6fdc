use Rattle.std.proofs.Common.{◌≡◌, ◌+◌, drop}
use Rattle.c_tree.specs.View.{block_view}
use Rattle.c_tree.specs.Counted.{all_group_loops}
use Rattle.c_tree.proofs.amounts.+loops.Given as goal

abbrev pub invariant-all_loops_of-loop-s : goal.invariant-all_loops_of-loop-s
invariant-all_loops_of-loop-s l = l.sum + all_group_loops (block_view (drop l.s-index l.body)) ≡ all_group_loops (block_view l.body)
