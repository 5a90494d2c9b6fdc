use Rattle.std.proofs.Common.{◌≡◌, ◌+◌, drop}
use Rattle.c_tree.specs.View.{block_view}
use Rattle.c_tree.specs.Tokens.{block_tokens}
use Rattle.c_run.proofs.count.+count_stmt.Given as goal

abbrev pub invariant-count_block-loop-s : goal.invariant-count_block-loop-s
invariant-count_block-loop-s l = l.all + block_tokens (block_view (drop l.s-index l.body)) ≡ l.sum + block_tokens (block_view l.body)
