use Rattle.std.proofs.Common.{◌≡◌, ◌++◌, drop}
use Rattle.c_tree.specs.View.{block_view}
use Rattle.c_tree.specs.Layout.{block_text}
use Rattle.c_write.proofs.stmts.+stmt.Given as goal

abbrev pub invariant-put_block-loop-s : goal.invariant-put_block-loop-s
invariant-put_block-loop-s l =
    l.out.items ++ block_text l.all l.depth (block_view (drop l.s-index l.body)) ≡ l.initial.out.items ++ block_text l.all l.depth (block_view l.body)
